-- Indexes without rows.
use Rattle.std.proofs.Common.{◌≡◌, ℕ, zero, suc, List, [], ◌∷◌, ◌++◌, map, length, refl, ap}
use Rattle.std.specs.Prelude.{slice_get}
use Rattle.cv_keys.specs.declared.schema.Table.{Table}
use Rattle.cv_docs.specs.IndexRows.{IndexRows}
use Rattle.cv_core.specs.Versioned.{entries_or, entries_at, shape}

pub push_empty : (xs : List IndexRows) (y : IndexRows) → ((i : ℕ) → entries_or (slice_get xs i) ≡ []) → y.entries ≡ [] → (i : ℕ) → entries_or (slice_get (xs ++ y ∷ []) i) ≡ []
push_empty [] y h e zero = e
push_empty [] y h e (suc i) = refl
push_empty (x ∷ xs) y h e zero = h zero
push_empty (x ∷ xs) y h e (suc i) = push_empty xs y (λ j. h (suc j)) e i

pub push_table : (ts : List (List IndexRows)) (t : List IndexRows) → ((table index : ℕ) → entries_at table index ts ≡ []) → ((i : ℕ) → entries_or (slice_get t i) ≡ [])
    → (table index : ℕ) → entries_at table index (ts ++ t ∷ []) ≡ []
push_table [] t h e zero index = e index
push_table [] t h e (suc table) index = refl
push_table (x ∷ ts) t h e zero index = h zero index
push_table (x ∷ ts) t h e (suc table) index = push_table ts t (λ k. h (suc k)) e table index

-- a table more has as many indexes as the next one is told to have
pub push_shape : (ts : List (List IndexRows)) (t : List IndexRows) (x : Table) (xs : List Table) → length t ≡ length x.indexes
    → shape (ts ++ t ∷ []) ++ map (λ (y : Table). length y.indexes) xs ≡ shape ts ++ map (λ (y : Table). length y.indexes) (x ∷ xs)
push_shape [] t x xs e = ap (λ (n : ℕ). n ∷ map (λ (y : Table). length y.indexes) xs) e
push_shape (u ∷ ts) t x xs e = ap (λ l. length u ∷ l) (push_shape ts t x xs e)
