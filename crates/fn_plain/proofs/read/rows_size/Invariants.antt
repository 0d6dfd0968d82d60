use Rattle.std.proofs.Common.{◌≡◌, ◌-◌, ◌^◌, min, take}
use Rattle.fn_tree.specs.Scan.{rows_size}
use Rattle.fn_plain.proofs.read.rows_size.Given as goal

abbrev pub invariant-loop-row : goal.invariant-loop-row
invariant-loop-row l = l.size ≡ min (rows_size (take l.row-index l.rows)) (2 ^ 64 - 1)
