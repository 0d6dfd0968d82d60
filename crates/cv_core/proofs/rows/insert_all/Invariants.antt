use Rattle.std.proofs.Common.{◌≡◌, ℕ, ◌≤◌, length}
use Rattle.std.specs.Vec.Iter.{into_iter_items}
use Rattle.cv_docs.specs.History.{with_all, AreAllowed}
use Rattle.cv_core.specs.Changes.{changes_at, entries_of}
use Rattle.cv_core.specs.Versioned.{entries_at, spare_at, shape}
use Rattle.cv_core.proofs.rows.insert_all.Given as goal

-- the changes to come have room and are allowed, and with them all is made
abbrev pub invariant-loop-change : goal.invariant-loop-change
invariant-loop-change l = record {
  shapes : shape l.tables.items ≡ shape l.initial.tables.items;
  room : (table index : ℕ) → length (changes_at table index (into_iter_items l.change-iterator)) ≤ spare_at table index l.tables.items;
  allowed : (table index : ℕ) → AreAllowed (entries_of l.ts (changes_at table index (into_iter_items l.change-iterator))) (entries_at table index l.tables.items);
  rows : (table index : ℕ) → with_all (entries_of l.ts (changes_at table index (into_iter_items l.change-iterator))) (entries_at table index l.tables.items)
      ≡ with_all (entries_of l.ts (changes_at table index l.fn.changes.items)) (entries_at table index l.initial.tables.items);
}
