-- Which intervals a list has after a change, and whose owners a key hits.
use Rattle.std.specs.Prelude.{◌≡◌, ◌≢◌, ◌⊎◌, ℕ, true, List, Contains}
use Rattle.cv_keys.specs.Intervals.{contains}
use Rattle.range_tree.specs.Ranges.{Owned, inserted, removed, owners_at}

-- what was put in is there
abbrev pub InsertedIsThere : Type 0
InsertedIsThere = (x : Owned) (xs : List Owned) → Contains (inserted x xs) x

-- what was there stays where something is put in
abbrev pub InsertedKeepsOthers : Type 0
InsertedKeepsOthers = (x y : Owned) (xs : List Owned) → Contains xs y → Contains (inserted x xs) y

-- and nothing else comes in
abbrev pub InsertedAddsNoOther : Type 0
InsertedAddsNoOther = (x y : Owned) (xs : List Owned) → Contains (inserted x xs) y → (x ≡ y) ⊎ Contains xs y

-- all but what is taken out stays
abbrev pub RemovedKeepsOthers : Type 0
RemovedKeepsOthers = (x y : Owned) (xs : List Owned) → x ≢ y → Contains xs y → Contains (removed x xs) y

-- and nothing comes in
abbrev pub RemovedAddsNone : Type 0
RemovedAddsNone = (x y : Owned) (xs : List Owned) → Contains (removed x xs) y → Contains xs y

-- the owner of an interval that has the key is hit
abbrev pub OwnersAreHit : Type 0
OwnersAreHit = (table index : ℕ) (key : List ℕ) (i : Owned) (xs : List Owned) → Contains xs i → contains i.0 table index key ≡ true → Contains (owners_at table index key xs) i.1

-- and no other
abbrev pub NoOthersAreHit : Type 0
NoOthersAreHit = (table index : ℕ) (key : List ℕ) (owner : ℕ) (xs : List Owned) → Contains (owners_at table index key xs) owner
    → (i : Owned) × Contains xs i × (contains i.0 table index key ≡ true) × (i.1 ≡ owner)
