-- What stands under a number after a change.
use Rattle.std.proofs.Common.{◌≡◌, ℕ, Bool, true, false, ◌==◌, nat_lt, cond, List, [], ◌∷◌, Some, None, Option, refl, sym, ap, ◌∙◌, subst}
use Rattle.std.specs.Prelude.{option_map}
use Rattle.std.proofs.lemmas.Bool.{eqb-true}
use Rattle.cv_reads.specs.declared.mark.Mark.{Mark}
use Rattle.cv_subs.specs.Laws.{AtWith, AtWithout, AtChanged, AtAdvanced}
use Rattle.cv_subs.specs.Subs.{Sub, Subs, sub_at, with_sub, without_sub, changed, advanced, after_marks}
use Rattle.cv_subs.proofs.Numbers.{other_way}

-- where the first one is of the number itself
hidden : (id other n : ℕ) (s t : Sub) (o : Option Sub) → (n == id) ≡ true → cond (id == other) (Some s) o ≡ cond (id == other) (Some s) (cond (n == other) (Some t) o)
hidden id other n s t o same =
    let e = eqb-true n id same in
    subst (λ (m : ℕ). cond (id == other) (Some s) o ≡ cond (id == other) (Some s) (cond (m == other) (Some t) o)) (sym e)
    (elim (id == other) as (λ b. cond b (Some s) o ≡ cond b (Some s) (cond b (Some t) o)) [ true ↦ refl | false ↦ refl ])

-- where it is of another number
passed : (id other n : ℕ) (s t : Sub) (o p : Option Sub) → (n == id) ≡ false → p ≡ cond (id == other) (Some s) o
    → cond (n == other) (Some t) p ≡ cond (id == other) (Some s) (cond (n == other) (Some t) o)
passed id other n s t o p apart e =
    (elim (id == other) as (λ b. (id == other) ≡ b → p ≡ cond b (Some s) o → cond (n == other) (Some t) p ≡ cond b (Some s) (cond (n == other) (Some t) o)) [
      | true ↦ λ same f. let no : (n == other) ≡ false = subst (λ (m : ℕ). (n == m) ≡ false) (eqb-true id other same) apart in rw no f
      | false ↦ λ no f. ap (λ (q : Option Sub). cond (n == other) (Some t) q) f
    ]) refl e

pub at_with : AtWith
at_with id other s [] = refl
at_with id other s (p ∷ l) =
    (elim (p.0 == id) as (λ b. (p.0 == id) ≡ b → sub_at other (cond b ((id, s) ∷ l) (cond (nat_lt id p.0) ((id, s) ∷ p ∷ l) (p ∷ with_sub id s l))) ≡ cond (id == other) (Some s) (sub_at other (p ∷ l))) [
      | true ↦ λ same. hidden id other p.0 s p.1 (sub_at other l) same
      | false ↦ λ apart. elim (nat_lt id p.0) as (λ b. sub_at other (cond b ((id, s) ∷ p ∷ l) (p ∷ with_sub id s l)) ≡ cond (id == other) (Some s) (sub_at other (p ∷ l))) [
        | true ↦ refl
        | false ↦ passed id other p.0 s p.1 (sub_at other l) (sub_at other (with_sub id s l)) apart (at_with id other s l)
      ]
    ]) refl

pub at_without : AtWithout
at_without id other [] = elim (id == other) as (λ b. ◌≡◌ {A = Option Sub} None (cond b None None)) [ true ↦ refl | false ↦ refl ]
at_without id other (p ∷ l) =
    (elim (p.0 == id) as (λ b. (p.0 == id) ≡ b → sub_at other (cond b (without_sub id l) (p ∷ without_sub id l)) ≡ cond (id == other) None (cond (p.0 == other) (Some p.1) (sub_at other l))) [
      | true ↦ λ same. at_without id other l ∙ subst (λ (m : ℕ). cond (id == other) None (sub_at other l) ≡ cond (id == other) None (cond (m == other) (Some p.1) (sub_at other l))) (sym (eqb-true p.0 id same))
          (elim (id == other) as (λ b. cond b None (sub_at other l) ≡ cond b None (cond b (Some p.1) (sub_at other l))) [ true ↦ refl | false ↦ refl ])
      | false ↦ λ apart. (elim (id == other) as (λ b. (id == other) ≡ b → sub_at other (without_sub id l) ≡ cond b None (sub_at other l)
          → cond (p.0 == other) (Some p.1) (sub_at other (without_sub id l)) ≡ cond b None (cond (p.0 == other) (Some p.1) (sub_at other l))) [
            | true ↦ λ same f. let no : (p.0 == other) ≡ false = subst (λ (m : ℕ). (p.0 == m) ≡ false) (eqb-true id other same) apart in rw no f
            | false ↦ λ no f. ap (λ (q : Option Sub). cond (p.0 == other) (Some p.1) q) f
          ]) refl (at_without id other l)
    ]) refl

pub at_changed : AtChanged
at_changed id other f [] = refl
at_changed id other f (p ∷ l) =
    (elim (p.0 == other) as (λ b. (p.0 == other) ≡ b → cond b (Some (cond (p.0 == id) (f p.1) p.1)) (sub_at other (changed id f l)) ≡ option_map (λ s. cond (other == id) (f s) s) (cond b (Some p.1) (sub_at other l))) [
      | true ↦ λ same. ap (λ (m : ℕ). Some (cond (m == id) (f p.1) p.1)) (eqb-true p.0 other same)
      | false ↦ λ apart. at_changed id other f l
    ]) refl

pub at_advanced : AtAdvanced
at_advanced marks other [] = refl
at_advanced marks other (p ∷ l) =
    elim (p.0 == other) as (λ b. cond b (Some (advanced marks p.1)) (sub_at other (after_marks marks l)) ≡ option_map (advanced marks) (cond b (Some p.1) (sub_at other l))) [
      | true ↦ refl
      | false ↦ at_advanced marks other l
    ]
