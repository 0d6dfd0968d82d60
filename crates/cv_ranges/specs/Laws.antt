-- What users of a tree need to know of what it holds.
use Rattle.std.specs.Prelude.{◌≡◌, ℕ, List, []}
use Rattle.cv_keys.specs.declared.interval.Interval.{Interval}
use Rattle.cv_reads.specs.declared.mark.Mark.{Mark}
use Rattle.range_tree.specs.Ranges.{Owned}
use Rattle.cv_ranges.specs.Held.{Readings, none_read, with_reads, HasRead, HoldsReads, KeepsOthers}
use Rattle.cv_ranges.specs.Hits.{is_touched, marked_owners, is_among}

-- the empty tree is that of no readings
abbrev pub EmptyHoldsNone : Type 0
EmptyHoldsNone = HoldsReads [] none_read

-- where what a tree has of one owner changes, so do the readings
abbrev pub OneOwnerChanges : Type 0
OneOwnerChanges = (owner : ℕ) (is : List Interval) (old new : List Owned) (reads : Readings)
    → HoldsReads old reads → HasRead new owner is → KeepsOthers owner old new → HoldsReads new (with_reads owner is reads)

-- a tree that holds readings holds equal ones
abbrev pub EqualAreHeld : Type 0
EqualAreHeld = (tree : List Owned) (reads others : Readings) → HoldsReads tree reads → ((owner : ℕ) → others owner ≡ reads owner) → HoldsReads tree others

-- an owner is hit exactly where a mark touches what it has read
abbrev pub TouchedAreHit : Type 0
TouchedAreHit = (tree : List Owned) (reads : Readings) (marks : List Mark) (owner : ℕ)
    → HoldsReads tree reads → is_among owner (marked_owners marks tree) ≡ is_touched marks (reads owner)
