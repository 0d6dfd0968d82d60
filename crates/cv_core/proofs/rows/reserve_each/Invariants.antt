use Rattle.std.proofs.Common.{◌≡◌, ℕ, ◌≤◌, take}
use Rattle.std.specs.List.{AllByRecursion}
use Rattle.cv_core.specs.Versioned.{entries_at, spare_at, shape}
use Rattle.cv_core.proofs.rows.reserve_each.Given as goal

-- those so far have room
abbrev pub invariant-loop-change : goal.invariant-loop-change
invariant-loop-change l = record {
  shapes : shape l.tables.items ≡ shape l.initial.tables.items;
  rows : (table index : ℕ) → entries_at table index l.tables.items ≡ entries_at table index l.initial.tables.items;
  spare : (table index : ℕ) → spare_at table index l.initial.tables.items ≤ spare_at table index l.tables.items;
  room : AllByRecursion (λ c. l.each ≤ spare_at c.table c.index l.tables.items) (take l.change-index l.changes);
}
