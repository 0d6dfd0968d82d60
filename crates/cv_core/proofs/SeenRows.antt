-- The rows of a table's indexes as contracts see them: each by its entries and its room.
use Rattle.std.proofs.Common.{◌≡◌, ℕ, zero, suc, ◌+◌, ◌<◌, ◌≤◌, cond, List, [], ◌∷◌, ◌++◌, map, length, set, Option, Some, refl, sym, ap, ◌∙◌, subst}
use Rattle.std.specs.Prelude.{slice_get, option_map, ◌==◌}
use Rattle.std.proofs.lemmas.List.{map-set, length-map}
use Rattle.cv_docs.specs.IndexRows.{IndexRows}
use Rattle.cv_docs.specs.declared.entry.IndexEntry.{IndexEntry}
use Rattle.cv_core.specs.Versioned.{entries_or, spare_or}
use Rattle.cv_core.proofs.Nested.{set_here, set_entries, set_spare, grow_spare, keep_entries, there_from_spare}

module _ {R : Type 0} (seen : R → IndexRows) where
  seen_at : (rows : List R) (i : ℕ) → slice_get (map seen rows) i ≡ option_map seen (slice_get rows i)
  seen_at [] i = refl
  seen_at (x ∷ rows) zero = refl
  seen_at (x ∷ rows) (suc i) = seen_at rows i

  -- no rows in one index more
  pub empty_behind : (rows : List R) (x : R) → ((i : ℕ) → entries_or (slice_get (map seen rows) i) ≡ []) → (seen x).entries ≡ []
      → (i : ℕ) → entries_or (slice_get (map seen (rows ++ x ∷ [])) i) ≡ []
  empty_behind [] x h e zero = e
  empty_behind [] x h e (suc i) = refl
  empty_behind (y ∷ rows) x h e zero = h 0
  empty_behind (y ∷ rows) x h e (suc i) = empty_behind rows x (λ j. h (suc j)) e i

  module _ (rows : List R) (shown : List IndexRows) (is : map seen rows ≡ shown) where
    -- what has room is there
    pub row_there : (n : ℕ) → 0 < spare_or (slice_get shown n) → n < length rows
    row_there n h =
        let room : 0 < spare_or (slice_get (map seen rows) n) = subst (λ (l : List IndexRows). 0 < spare_or (slice_get l n)) (sym is) h in
        subst (λ (k : ℕ). n < k) (length-map rows seen) (there_from_spare (map seen rows) n room)

    module _ (n : ℕ) (old new : R) (at : slice_get rows n ≡ Some old) (inside : n < length rows) where
      there : slice_get (map seen rows) n ≡ Some (seen old)
      there = seen_at rows n ∙ ap (option_map seen) at

      within : n < length (map seen rows)
      within = subst (λ (k : ℕ). n < k) (sym (length-map rows seen)) inside

      changed : set (map seen rows) n (seen new) ≡ map seen (set rows n new)
      changed = sym (map-set seen rows n new)

      pub entries_set : (f : List IndexEntry → List IndexEntry) → (seen new).entries ≡ f (seen old).entries
          → (i : ℕ) → entries_or (slice_get (map seen (set rows n new)) i) ≡ cond (i == n) (f (entries_or (slice_get shown i))) (entries_or (slice_get shown i))
      entries_set f e i =
          ap (λ (l : List IndexRows). entries_or (slice_get l i)) (sym changed)
          ∙ set_entries (map seen rows) n (seen old) (seen new) there within f e i
          ∙ ap (λ (l : List IndexRows). cond (i == n) (f (entries_or (slice_get l i))) (entries_or (slice_get l i))) is

      pub entries_stay : (seen new).entries ≡ (seen old).entries → (i : ℕ) → entries_or (slice_get (map seen (set rows n new)) i) ≡ entries_or (slice_get shown i)
      entries_stay e i =
          ap (λ (l : List IndexRows). entries_or (slice_get l i)) (sym changed)
          ∙ keep_entries (map seen rows) n (seen old) (seen new) there within e i
          ∙ ap (λ (l : List IndexRows). entries_or (slice_get l i)) is

      pub spare_used : (seen old).spare ≤ (seen new).spare + 1 → (i : ℕ) → spare_or (slice_get shown i) ≤ spare_or (slice_get (map seen (set rows n new)) i) + cond (i == n) 1 0
      spare_used h i =
          subst (λ (l : List IndexRows). spare_or (slice_get l i) ≤ spare_or (slice_get (map seen (set rows n new)) i) + cond (i == n) 1 0) is
          (subst (λ (l : List IndexRows). spare_or (slice_get (map seen rows) i) ≤ spare_or (slice_get l i) + cond (i == n) 1 0) changed
          (set_spare (map seen rows) n (seen old) (seen new) there within h i))

      pub spare_grown : (seen old).spare ≤ (seen new).spare → (i : ℕ) → spare_or (slice_get shown i) ≤ spare_or (slice_get (map seen (set rows n new)) i)
      spare_grown h i =
          subst (λ (l : List IndexRows). spare_or (slice_get l i) ≤ spare_or (slice_get (map seen (set rows n new)) i)) is
          (subst (λ (l : List IndexRows). spare_or (slice_get (map seen rows) i) ≤ spare_or (slice_get l i)) changed
          (grow_spare (map seen rows) n (seen old) (seen new) there within h i))

      pub room_made : (each : ℕ) → each ≤ (seen new).spare → each ≤ spare_or (slice_get (map seen (set rows n new)) n)
      room_made each h =
          let same : spare_or (slice_get (map seen (set rows n new)) n) ≡ (seen new).spare =
          ap (λ (l : List IndexRows). spare_or (slice_get l n)) (sym changed) ∙ ap spare_or (set_here (map seen rows) n (seen new) within) in
          subst (λ (k : ℕ). each ≤ k) (sym same) h
