-- Variables: a scope by its names and its values, and the slots of a code.
use Rattle.std.proofs.Common.{◌≡◌, ℕ, suc, ◌+◌, Bool, true, false, cond, List, [], ◌∷◌, ◌++◌, map, length, take, Option, Some, None, refl, sym, ap, ◌∙◌, subst, arith, position, ltb, not, ◌==◌, option_map, zero}
use Rattle.std.specs.Prelude.{slice_get}
use Rattle.std.specs.List.{position_or_len}
use lib.Dec.{leb-zero, leb-suc-suc, eqb-zero-suc, eqb-suc-zero, eqb-suc-suc}
use Rattle.std.specs.Str.{bytes_eq}
use Rattle.cv_values.specs.Value.{Value}
use Rattle.fn_tree.specs.Actions.{Scope}
use Rattle.fn_tree.specs.Names.{at_name, assigned, bound_to}
use Rattle.fn_tree.specs.Schemas.{text_of}
use Rattle.fn_tree.specs.declared.syntax.Named.{Named}
use Rattle.fn_code.specs.Operands.{stored}
use Rattle.fn_code.proofs.Places.{names_in, values_in}

pub position_next : {A : Type 0} (test : A → Bool) (x : A) (xs : List A) → position test (x ∷ xs) ≡ cond (test x) (Some 0) (option_map (λ n. suc n) (position test xs))
position_next test x xs = go (test x) (ltb (position_or_len test xs) (length xs)) (leb-suc-suc (suc (position_or_len test xs)) (length xs))
  where
    n : ℕ
    n = position_or_len test xs

    go : (b c : Bool) → ltb (suc n) (suc (length xs)) ≡ c →
        cond (ltb (cond (not b) (1 + n) 0) (suc (length xs))) (Some (cond (not b) (1 + n) 0)) None ≡ cond b (Some 0) (option_map (λ k. suc k) (cond c (Some n) None))
    go true c e = ap (λ d. cond d (Some 0) None) (leb-suc-suc 0 (length xs) ∙ leb-zero (length xs))
    go false c e = ap (λ k. cond (ltb k (suc (length xs))) (Some k) None) one ∙ (ap (λ d. cond d (Some (suc n)) None) e ∙ some c)
      where
        one : 1 + n ≡ suc n
        one = omega arith

        some : (c : Bool) → cond c (Some (suc n)) None ≡ option_map (λ k. suc k) (cond c (Some n) None)
        some true = refl
        some false = refl

-- a slot has the value of a name, or neither is there
abbrev pub SlotHas : List Value → Option ℕ → Option Value → Type 0
SlotHas vars None None = Unit {0}
SlotHas vars (Some n) (Some v) = slice_get vars n ≡ Some v
SlotHas vars a b = ⊥

slot_shifts : (w : Value) (vars : List Value) (a : Option ℕ) (b : Option Value) → SlotHas vars a b → SlotHas (w ∷ vars) (option_map (λ n. suc n) a) b
slot_shifts w vars None None h = tt
slot_shifts w vars (Some n) (Some v) h = h
slot_shifts w vars None (Some v) h = absurd h
slot_shifts w vars (Some n) None h = absurd h

abbrev pub slot_in : List (List ℕ) → List ℕ → Option ℕ
slot_in names x = position (λ name. bytes_eq name x) names

pub slot_has : (scope : Scope) (x : List ℕ) → SlotHas (values_in scope) (slot_in (names_in scope) x) (at_name x scope)
slot_has [] x = tt
slot_has (p ∷ scope) x =
    subst (λ n. SlotHas (values_in (p ∷ scope)) n (at_name x (p ∷ scope))) (sym (position_next (λ name. bytes_eq name x) p.0 (names_in scope))) (go (bytes_eq p.0 x) (slot_has scope x))
  where
    go : (b : Bool) → SlotHas (values_in scope) (slot_in (names_in scope) x) (at_name x scope) →
        SlotHas (values_in (p ∷ scope)) (cond b (Some 0) (option_map (λ n. suc n) (slot_in (names_in scope) x))) (cond b (Some p.1) (at_name x scope))
    go true h = refl
    go false h = slot_shifts p.1 (values_in scope) (slot_in (names_in scope) x) (at_name x scope) h

-- a slot takes the value as the name does, or neither is there
abbrev pub SlotTakes : Scope → Value → Option ℕ → Option Scope → Type 0
SlotTakes scope v None None = Unit {0}
SlotTakes scope v (Some n) (Some after) = (names_in after ≡ names_in scope) × (values_in after ≡ stored n v (values_in scope))
SlotTakes scope v a b = ⊥

takes_shifts : (p : List ℕ × Value) (scope : Scope) (v : Value) (a : Option ℕ) (b : Option Scope) → SlotTakes scope v a b →
    SlotTakes (p ∷ scope) v (option_map (λ n. suc n) a) (option_map (λ (after : Scope). p ∷ after) b)
takes_shifts p scope v None None h = tt
takes_shifts p scope v (Some n) (Some after) h = (ap (λ (names : List (List ℕ)). p.0 ∷ names) h.0, ap (λ (vars : List Value). p.1 ∷ vars) h.1)
takes_shifts p scope v None (Some after) h = absurd h
takes_shifts p scope v (Some n) None h = absurd h

pub slot_takes : (scope : Scope) (x : List ℕ) (v : Value) → SlotTakes scope v (slot_in (names_in scope) x) (assigned x v scope)
slot_takes [] x v = tt
slot_takes (p ∷ scope) x v =
    subst (λ n. SlotTakes (p ∷ scope) v n (assigned x v (p ∷ scope))) (sym (position_next (λ name. bytes_eq name x) p.0 (names_in scope))) (go (bytes_eq p.0 x) (slot_takes scope x v))
  where
    go : (b : Bool) → SlotTakes scope v (slot_in (names_in scope) x) (assigned x v scope) →
        SlotTakes (p ∷ scope) v (cond b (Some 0) (option_map (λ n. suc n) (slot_in (names_in scope) x)))
        (elim b [ true ↦ Some ((p.0, v) ∷ scope) | false ↦ option_map (λ (after : Scope). p ∷ after) (assigned x v scope) ])
    go true h = (refl, refl)
    go false h = takes_shifts p scope v (slot_in (names_in scope) x) (assigned x v scope) h

-- ---- blocks

pub map_append : {A B : Type 0} (f : A → B) (xs ys : List A) → map f (xs ++ ys) ≡ map f xs ++ map f ys
map_append f [] ys = refl
map_append f (x ∷ xs) ys = ap (λ zs. f x ∷ zs) (map_append f xs ys)

pub map_take : {A B : Type 0} (f : A → B) (n : ℕ) (xs : List A) → map f (take n xs) ≡ take n (map f xs)
map_take f zero xs = refl
map_take f (suc n) [] = refl
map_take f (suc n) (x ∷ xs) = ap (λ zs. f x ∷ zs) (map_take f n xs)

pub length_map : {A B : Type 0} (f : A → B) (xs : List A) → length (map f xs) ≡ length xs
length_map f [] = refl
length_map f (x ∷ xs) = ap (λ n. suc n) (length_map f xs)

pub take_front : {A : Type 0} (xs ys : List A) → take (length xs) (xs ++ ys) ≡ xs
take_front [] ys = refl
take_front (x ∷ xs) ys = ap (λ zs. x ∷ zs) (take_front xs ys)

pub take_whole : {A : Type 0} (xs : List A) → take (length xs) xs ≡ xs
take_whole [] = refl
take_whole (x ∷ xs) = ap (λ zs. x ∷ zs) (take_whole xs)

-- ---- parameters

-- the parameters are bound to the values where these are as many
abbrev pub Binds : List Named → List Value → Bool → Option Scope → Type 0
Binds params vs true (Some scope) = (names_in scope ≡ map text_of params) × (values_in scope ≡ vs)
Binds params vs false None = Unit {0}
Binds params vs b x = ⊥

binds_next : (x : Named) (params : List Named) (v : Value) (vs : List Value) (b : Bool) (s : Option Scope) → Binds params vs b s →
    Binds (x ∷ params) (v ∷ vs) b (option_map (λ (scope : Scope). (x.text, v) ∷ scope) s)
binds_next x params v vs true (Some scope) h = (ap (λ (names : List (List ℕ)). x.text ∷ names) h.0, ap (λ (vars : List Value). v ∷ vars) h.1)
binds_next x params v vs false None h = tt
binds_next x params v vs false (Some scope) h = absurd h
binds_next x params v vs true None h = absurd h

pub binds : (params : List Named) (vs : List Value) → Binds params vs (length params == length vs) (bound_to params vs)
binds [] [] = (refl, refl)
binds [] (v ∷ vs) = subst (λ b. Binds [] (v ∷ vs) b None) (sym (eqb-zero-suc (length vs))) tt
binds (x ∷ params) [] = subst (λ b. Binds (x ∷ params) [] b None) (sym (eqb-suc-zero (length params))) tt
binds (x ∷ params) (v ∷ vs) =
    subst (λ b. Binds (x ∷ params) (v ∷ vs) b (bound_to (x ∷ params) (v ∷ vs))) (sym (eqb-suc-suc (length params) (length vs)))
    (binds_next x params v vs (length params == length vs) (bound_to params vs) (binds params vs))
