use Rattle.std.proofs.Common.{◌≡◌, map, take}
use Rattle.cv_values.specs.Trees.{tree}
use Rattle.fn_ops.proofs.arrays.copy_items.Given as goal

abbrev pub invariant-loop-item : goal.invariant-loop-item
invariant-loop-item l = l.copies ≡ map tree (take l.item-index l.items)
