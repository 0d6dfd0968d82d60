use Rattle.std.proofs.Common.{◌≡◌, ◌-◌, ◌^◌, ◌≤◌, drop, map}
use Rattle.cv_values.specs.Measures.{add, of_values}
use Rattle.cv_values.specs.Trees.{tree}
use Rattle.cv_values.proofs.measure.Measure.of_items.Given as goal

abbrev pub invariant-loop-item : goal.invariant-loop-item
invariant-loop-item l = (l.total.size ≤ 2 ^ 64 - 1) × (add l.total (of_values (map tree (drop l.item-index l.items))) ≡ of_values (map tree l.items))
