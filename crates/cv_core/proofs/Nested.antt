-- Rows of an index after a change of one table.
use Rattle.std.proofs.Common.{◌≡◌, ℕ, zero, suc, ◌+◌, ◌<◌, ◌≤◌, Bool, true, false, cond, List, [], ◌∷◌, map, length, set, Option, Some, refl, sym, ap, ◌∙◌, arith}
use Rattle.std.specs.Prelude.{slice_get, option_and_then, ◌==◌}
use Rattle.std.proofs.lemmas.Bool.{eq-eqb, eqb-true}
use Rattle.cv_docs.specs.declared.entry.IndexEntry.{IndexEntry}
use Rattle.cv_docs.specs.IndexRows.{IndexRows}
use Rattle.cv_core.specs.Versioned.{rows_of, entries_or, spare_or, spare_at, shape}

-- ---- an item that is set

pub set_here : {A : Type 0} (xs : List A) (n : ℕ) (y : A) → n < length xs → slice_get (set xs n y) n ≡ Some y
set_here [] n y h = absurd (omega (arith, h))
set_here (x ∷ xs) zero y h = refl
set_here (x ∷ xs) (suc n) y h = set_here xs n y (omega (arith, h))

pub set_other : {A : Type 0} (xs : List A) (n k : ℕ) (y : A) → (k ≡ n → ⊥) → slice_get (set xs n y) k ≡ slice_get xs k
set_other [] n k y h = refl
set_other (x ∷ xs) zero zero y h = absurd (h refl)
set_other (x ∷ xs) zero (suc k) y h = refl
set_other (x ∷ xs) (suc n) zero y h = refl
set_other (x ∷ xs) (suc n) (suc k) y h = set_other xs n k y (λ e. h (ap suc e))

pub map_set : {A B : Type 0} (f : A → B) (xs : List A) (n : ℕ) (x y : A) → slice_get xs n ≡ Some x → f y ≡ f x → map f (set xs n y) ≡ map f xs
map_set f [] n x y e h = refl
map_set f (z ∷ xs) zero x y e h = let same : z ≡ x = cc in ap (λ b. b ∷ map f xs) (h ∙ ap f (sym same))
map_set f (z ∷ xs) (suc n) x y e h = ap (λ l. f z ∷ l) (map_set f xs n x y e h)

module _ (tables : List (List IndexRows)) (table : ℕ) (old new : List IndexRows) (there : slice_get tables table ≡ Some old) (within : table < length tables) where
  -- what stands in each index of the changed table, and of the others
  pub in_table : {B : Type 0} (f : Option IndexRows → B) (index : ℕ) → f (rows_of table index (set tables table new)) ≡ f (slice_get new index)
  in_table f index = ap (λ o. f (option_and_then (λ t. slice_get t index) o)) (set_here tables table new within)

  pub was_in_table : {B : Type 0} (f : Option IndexRows → B) (index : ℕ) → f (rows_of table index tables) ≡ f (slice_get old index)
  was_in_table f index = ap (λ o. f (option_and_then (λ t. slice_get t index) o)) there

  pub elsewhere : {B : Type 0} (f : Option IndexRows → B) (other index : ℕ) → (other ≡ table → ⊥) → f (rows_of other index (set tables table new)) ≡ f (rows_of other index tables)
  elsewhere f other index h = ap (λ o. f (option_and_then (λ t. slice_get t index) o)) (set_other tables table other new h)

  pub same_shape : length new ≡ length old → shape (set tables table new) ≡ shape tables
  same_shape e = map_set length tables table old new there e

-- ---- one index of a table

module _ (l : List IndexRows) (n : ℕ) (old new : IndexRows) (at : slice_get l n ≡ Some old) (inside : n < length l) where
  by_index : {B : Type 0} (i : ℕ) (P : B → Type 0) (x y : B) → (i ≡ n → P x) → ((i ≡ n → ⊥) → P y) → P (cond (i == n) x y)
  by_index i P x y f g = go (i == n) refl
    where
      go : (b : Bool) → (i == n) ≡ b → P (cond b x y)
      go true q = f (eqb-true i n q)
      go false q = g (λ e. let f : true ≡ false = sym (eq-eqb i n e) ∙ q in cc)

  pub set_entries : (f : List IndexEntry → List IndexEntry) → new.entries ≡ f old.entries
      → (i : ℕ) → entries_or (slice_get (set l n new) i) ≡ cond (i == n) (f (entries_or (slice_get l i))) (entries_or (slice_get l i))
  set_entries f e i =
      by_index i (λ es. entries_or (slice_get (set l n new) i) ≡ es) (f (entries_or (slice_get l i))) (entries_or (slice_get l i))
      (λ s. ap (λ (k : ℕ). entries_or (slice_get (set l n new) k)) s ∙ ap entries_or (set_here l n new inside) ∙ e ∙ ap (λ o. f (entries_or o)) (sym at) ∙ ap (λ (k : ℕ). f (entries_or (slice_get l k))) (sym s))
      (λ s. ap entries_or (set_other l n i new s))

  pub set_spare : old.spare ≤ new.spare + 1 → (i : ℕ) → spare_or (slice_get l i) ≤ spare_or (slice_get (set l n new) i) + cond (i == n) 1 0
  set_spare h i =
      by_index i (λ (k : ℕ). spare_or (slice_get l i) ≤ spare_or (slice_get (set l n new) i) + k) 1 0
      (λ s.
      let was : spare_or (slice_get l i) ≡ old.spare = ap (λ (k : ℕ). spare_or (slice_get l k)) s ∙ ap spare_or at in
      let is : spare_or (slice_get (set l n new) i) ≡ new.spare = ap (λ (k : ℕ). spare_or (slice_get (set l n new) k)) s ∙ ap spare_or (set_here l n new inside) in
      omega (arith, was, is, h))
      (λ s. let same : spare_or (slice_get (set l n new) i) ≡ spare_or (slice_get l i) = ap spare_or (set_other l n i new s) in omega (arith, same))

  pub grow_spare : old.spare ≤ new.spare → (i : ℕ) → spare_or (slice_get l i) ≤ spare_or (slice_get (set l n new) i)
  grow_spare h i =
      by_index i (λ (k : ℕ). spare_or (slice_get l i) ≤ spare_or (slice_get (set l n new) i)) 1 0
      (λ s.
      let was : spare_or (slice_get l i) ≡ old.spare = ap (λ (k : ℕ). spare_or (slice_get l k)) s ∙ ap spare_or at in
      let is : spare_or (slice_get (set l n new) i) ≡ new.spare = ap (λ (k : ℕ). spare_or (slice_get (set l n new) k)) s ∙ ap spare_or (set_here l n new inside) in
      omega (arith, was, is, h))
      (λ s. let same : spare_or (slice_get (set l n new) i) ≡ spare_or (slice_get l i) = ap spare_or (set_other l n i new s) in omega (arith, same))

  pub keep_entries : new.entries ≡ old.entries → (i : ℕ) → entries_or (slice_get (set l n new) i) ≡ entries_or (slice_get l i)
  keep_entries e i = set_entries (λ es. es) e i ∙ same (i == n) (entries_or (slice_get l i))
    where
      same : (b : Bool) (es : List IndexEntry) → cond b es es ≡ es
      same true es = refl
      same false es = refl

-- what has room is there
pub there_from_spare : (l : List IndexRows) (n : ℕ) → 0 < spare_or (slice_get l n) → n < length l
there_from_spare [] n h = absurd (omega (arith, h))
there_from_spare (x ∷ l) zero h = omega arith
there_from_spare (x ∷ l) (suc n) h = omega (arith, there_from_spare l n h)

pub table_from_spare : (tables : List (List IndexRows)) (t i : ℕ) → 0 < spare_at t i tables → t < length tables
table_from_spare [] t i h = absurd (omega (arith, h))
table_from_spare (x ∷ tables) zero i h = omega arith
table_from_spare (x ∷ tables) (suc t) i h = omega (arith, table_from_spare tables t i h)
