use Rattle.std.proofs.Common.{◌≡◌, ℕ, [], length, map}
use Rattle.std.specs.Prelude.{slice_get}
use Rattle.cv_docs.specs.IndexRows.{rows_by}
use Rattle.cv_core.specs.Versioned.{entries_or}
use Rattle.cv_core.proofs.table_rows.TableRows.new.Given as goal

-- no rows in the indexes so far
abbrev pub invariant-loop-index : goal.invariant-loop-index
invariant-loop-index g l = record {
  count : length l.rows.items ≡ l._index-index;
  empty : (i : ℕ) → entries_or (slice_get (map (rows_by g.R.RowIndex.entries g.R.RowIndex.spare) l.rows.items) i) ≡ [];
}
