-- Which intervals a tree has of which owner.
use Rattle.std.specs.Prelude.{◌≢◌, ◌↔◌, ℕ, ◌==◌, cond, List, [], Contains}
use Rattle.cv_keys.specs.declared.interval.Interval.{Interval}
use Rattle.range_tree.specs.Ranges.{Owned}

-- what each owner has read: no interval, where it has read nothing
abbrev pub Readings : Type 0
Readings = ℕ → List Interval

-- nobody has read
abbrev pub none_read : Readings
none_read owner = []

-- the readings with these in place of an owner's own
abbrev pub with_reads : (owner : ℕ) → List Interval → Readings → Readings
with_reads owner is reads other = cond (other == owner) is (reads other)

-- of this owner a tree has these intervals, however often each was read
abbrev pub HasRead : List Owned → (owner : ℕ) → List Interval → Type 0
HasRead tree owner is = (i : Interval) → (Contains tree (i, owner) ↔ Contains is i)

-- a tree has of each owner exactly what it has read
abbrev pub HoldsReads : List Owned → Readings → Type 0
HoldsReads tree reads = (owner : ℕ) → HasRead tree owner (reads owner)

-- of every other owner a tree has what it had before
abbrev pub KeepsOthers : (owner : ℕ) → (old new : List Owned) → Type 0
KeepsOthers owner old new = (other : ℕ) → other ≢ owner → (i : Interval) → (Contains new (i, other) ↔ Contains old (i, other))
