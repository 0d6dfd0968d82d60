use Rattle.std.proofs.Common.{◌≡◌, ◌≤◌, length, drop}
use Rattle.cv_keys.specs.Places.{PlaceInterval}
use Rattle.fn_tree.specs.Rows.{rows_by, is_within}
use Rattle.fn_plain.specs.Scans.{Stands}
use Rattle.fn_plain.proofs.scan.rows_in.Given as goal

-- the rows of the last documents
abbrev pub invariant-loop-left : goal.invariant-loop-left
invariant-loop-left l = record {
  within : l.left ≤ length l.docs;
  rows : (p : PlaceInterval) → Stands p l.i → l.rows.items ≡ rows_by l.index (is_within l.index p) (drop l.left l.docs);
}

abbrev pub decreases-loop-left : goal.decreases-loop-left
decreases-loop-left l = l.left
