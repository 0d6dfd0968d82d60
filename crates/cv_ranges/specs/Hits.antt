-- The owners that marks hit, and what becomes of a value whose owners are hit.
use Rattle.std.specs.Prelude.{◌≡◌, ℕ, Bool, false, ◌||◌, ◌==◌, is_some, List, [], ◌∷◌, ◌++◌}
use Rattle.std.specs.Borrow.{MutBor}
use Rattle.cv_keys.specs.declared.interval.Interval.{Interval}
use Rattle.cv_reads.specs.FirstTouch.{first_touch}
use Rattle.cv_reads.specs.declared.mark.Mark.{Mark}
use Rattle.range_tree.specs.Ranges.{Owned, owners_at}

-- a mark touches what was read
abbrev pub is_touched : List Mark → List Interval → Bool
is_touched marks is = is_some (first_touch marks is)

-- the owners that the marks hit in a tree, mark by mark
abbrev pub marked_owners : List Mark → List Owned → List ℕ
marked_owners [] tree = []
marked_owners (m ∷ marks) tree = owners_at m.table m.index m.key tree ++ marked_owners marks tree

-- the owner is one of these
abbrev pub is_among : ℕ → List ℕ → Bool
is_among owner [] = false
is_among owner (o ∷ owners) = (o == owner) || is_among owner owners

-- what becomes of a value where owners are hit in order
abbrev pub after_hits : {M : Type 0} → (M → ℕ → M) → M → List ℕ → M
after_hits after m [] = m
after_hits after m (owner ∷ owners) = after_hits after (after m owner) owners

-- a borrow of a name, which stands first, has behind it what became of a value where owners were hit
abbrev pub HasTaken : {M : Type 0} → (M → ℕ → M) → M → MutBor M → List ℕ → Type 0
HasTaken after m borrow [] = ⊥
HasTaken after m borrow (name ∷ owners) = (borrow.ghost_name ≡ name) × (borrow.now ≡ after_hits after m owners)
