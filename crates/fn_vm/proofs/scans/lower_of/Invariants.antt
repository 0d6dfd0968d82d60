use Rattle.std.proofs.Common.{◌≡◌, drop, map, zip}
use Rattle.cv_keys.specs.Places.{Place}
use Rattle.cv_values.specs.Trees.{tree}
use Rattle.fn_tree.specs.Reading.{lower_of}
use Rattle.fn_vm.proofs.scans.lower_of.Given as goal

abbrev pub invariant-loop-op : goal.invariant-loop-op
invariant-loop-op l = (p : Place) → lower_of p (zip (drop l.op-index l.ops) (map tree l.rest)) ≡ lower_of p (zip l.ops (map tree l.values))
