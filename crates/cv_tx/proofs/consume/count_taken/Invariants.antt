use Rattle.std.proofs.Common.{◌≡◌, ◌++◌, take, drop}
use Rattle.fn_tree.specs.Scan.{rows_size, consumed_after}
use Rattle.cv_tx.proofs.consume.count_taken.Given as goal

-- the rows so far are consumed
abbrev pub invariant-loop-row : goal.invariant-loop-row
invariant-loop-row l = record {
  rows : l.taken.rows ≡ l.row-index;
  size : l.taken.size ≡ rows_size (take l.row-index l.rows);
  front : consumed_after l.limit l.left 0 0 l.rows ≡ take l.row-index l.rows ++ consumed_after l.limit l.left l.row-index (rows_size (take l.row-index l.rows)) (drop l.row-index l.rows);
}
