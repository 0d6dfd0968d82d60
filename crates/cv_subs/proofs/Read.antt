-- What the queries of all numbers have read, after a change.
use Rattle.std.proofs.Common.{◌≡◌, ℕ, Bool, true, false, ◌==◌, cond, List, [], ◌∷◌, Some, None, Option, refl, sym, ap, ◌∙◌, subst}
use Rattle.std.specs.Prelude.{IsSome, option_map}
use Rattle.std.proofs.lemmas.Bool.{eqb-true}
use Rattle.cv_keys.specs.declared.interval.Interval.{Interval}
use Rattle.cv_reads.specs.declared.mark.Mark.{Mark}
use Rattle.fn_tree.specs.Course.{Reply}
use Rattle.fn_tree.specs.declared.stop.Query.{Query}
use Rattle.cv_ranges.specs.Held.{Readings, with_reads}
use Rattle.cv_subs.specs.Subs.{Sub, Subs, new_sub, sub_at, reads_in, reads_of, with_sub, without_sub, changed, answered, advanced, after_marks}
use Rattle.cv_subs.proofs.AtNumbers.{at_with, at_without, at_changed, at_advanced}
use Rattle.cv_subs.proofs.Chosen.{there}
use Rattle.cv_subs.proofs.Numbers.{other_way}

-- a new query has read nothing
pub read_with : (id : ℕ) (q : Query) (l : Subs) → sub_at id l ≡ None → (other : ℕ) → reads_of (with_sub id (new_sub q) l) other ≡ reads_of l other
read_with id q l new other =
    ap reads_in (at_with id other (new_sub q) l)
    ∙ (elim (id == other) as (λ b. (id == other) ≡ b → reads_in (cond b (Some (new_sub q)) (sub_at other l)) ≡ reads_in (sub_at other l)) [
      | true ↦ λ same. let none : sub_at other l ≡ None = subst (λ (n : ℕ). sub_at n l ≡ None) (eqb-true id other same) new in sym (ap reads_in none)
      | false ↦ λ apart. refl
    ]) refl

pub read_without : (id : ℕ) (l : Subs) → (other : ℕ) → reads_of (without_sub id l) other ≡ with_reads id [] (reads_of l) other
read_without id l other =
    ap reads_in (at_without id other l)
    ∙ (ap (λ b. reads_in (cond b None (sub_at other l))) (other_way id other)
    ∙ (elim (other == id) as (λ b. reads_in (cond b None (sub_at other l)) ≡ cond b [] (reads_in (sub_at other l))) [ true ↦ refl | false ↦ refl ]))

pub read_answered : (id : ℕ) (reply : Reply) (reads : List Interval) (l : Subs) → IsSome (sub_at id l) → (other : ℕ)
    → reads_of (changed id (answered reply reads) l) other ≡ with_reads id reads (reads_of l) other
read_answered id reply reads l is other =
    ap reads_in (at_changed id other (answered reply reads) l)
    ∙ (elim (other == id) as (λ b. (other == id) ≡ b → reads_in (option_map (λ s. cond b (answered reply reads s) s) (sub_at other l)) ≡ cond b reads (reads_in (sub_at other l))) [
      | true ↦ λ same. let had = subst (λ (n : ℕ). IsSome (sub_at n l)) (sym (eqb-true other id same)) is in
          ap (λ (o : Option Sub). reads_in (option_map (λ s. answered reply reads s) o)) (there (sub_at other l) had).1
      | false ↦ λ apart. elim (sub_at other l) as (λ (o : Option Sub). reads_in (option_map (λ s. s) o) ≡ reads_in o) [ None ↦ refl | Some s ↦ refl ]
    ]) refl

-- marks change no reads
pub read_advanced : (marks : List Mark) (l : Subs) → (other : ℕ) → reads_of (after_marks marks l) other ≡ reads_of l other
read_advanced marks l other =
    ap reads_in (at_advanced marks other l)
    ∙ elim (sub_at other l) as (λ (o : Option Sub). reads_in (option_map (advanced marks) o) ≡ reads_in o) [ None ↦ refl | Some s ↦ refl ]

-- what is put in place of nothing is put in place of what was there
pub with_again : (id : ℕ) (reads : List Interval) (had : Readings) → (other : ℕ) → with_reads id reads had other ≡ with_reads id reads (with_reads id [] had) other
with_again id reads had other = elim (other == id) as (λ b. cond b reads (had other) ≡ cond b reads (cond b [] (had other))) [ true ↦ refl | false ↦ refl ]

-- the reads of a query that is there, and of none
pub read_there : (id : ℕ) (l : Subs) (reads : List Interval) → ◌≡◌ {A = Option (List Interval)} (Some reads) (option_map (λ s. s.reads) (sub_at id l)) → reads_of l id ≡ reads
read_there id l reads e =
    (elim (sub_at id l) as (λ (o : Option Sub). ◌≡◌ {A = Option (List Interval)} (Some reads) (option_map (λ s. s.reads) o) → reads_in o ≡ reads) [
      | None ↦ λ f. cc
      | Some s ↦ λ f. cc
    ]) e

pub read_absent : (id : ℕ) (l : Subs) → ◌≡◌ {A = Option (List Interval)} None (option_map (λ s. s.reads) (sub_at id l)) → (other : ℕ) → reads_of (without_sub id l) other ≡ reads_of l other
read_absent id l e other =
    let none : sub_at id l ≡ None = (elim (sub_at id l) as (λ (o : Option Sub). ◌≡◌ {A = Option (List Interval)} None (option_map (λ s. s.reads) o) → o ≡ None) [ None ↦ λ f. refl | Some s ↦ λ f. cc ]) e in
    ap reads_in (at_without id other l)
    ∙ (elim (id == other) as (λ b. (id == other) ≡ b → reads_in (cond b None (sub_at other l)) ≡ reads_in (sub_at other l)) [
      | true ↦ λ same. let absent : sub_at other l ≡ None = subst (λ (n : ℕ). sub_at n l ≡ None) (eqb-true id other same) none in sym (ap reads_in absent)
      | false ↦ λ apart. refl
    ]) refl
