use Rattle.std.proofs.Common.{◌≡◌, ◌++◌, [], ℕ, drop, length, map}
use Rattle.cv_core.specs.Versioned.{entries_at, shape}
use Rattle.cv_core.proofs.rows.Rows.new.Given as goal

-- no rows in the tables so far
abbrev pub invariant-loop-table : goal.invariant-loop-table
invariant-loop-table l = record {
  shapes : shape l.tables.items ++ map (λ t. length t.indexes) (drop l.table-index l.declared) ≡ map (λ t. length t.indexes) l.declared;
  empty : (table index : ℕ) → entries_at table index l.tables.items ≡ [];
}
