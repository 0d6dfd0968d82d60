use Rattle.std.proofs.Common.{◌≡◌, ◌-◌, ◌^◌, min, take}
use Rattle.fn_tree.specs.Scan.{rows_size}
use Rattle.fn_vm.proofs.rows.rows_size.Given as goal

abbrev pub invariant-loop-doc : goal.invariant-loop-doc
invariant-loop-doc l = l.size ≡ min (rows_size (take l.doc-index l.docs)) (2 ^ 64 - 1)
