use Rattle.std.proofs.Common.{◌≡◌, ◌++◌, Some, map, drop, zip}
use Rattle.cv_values.specs.Trees.{tree}
use Rattle.fn_tree.specs.Reading.{equals_of}
use Rattle.fn_vm.proofs.scans.equals_of.Given as goal

abbrev pub invariant-loop-op : goal.invariant-loop-op
invariant-loop-op l = map Some l.equals ++ equals_of (zip (drop l.op-index l.ops) (map tree l.rest)) ≡ equals_of (zip l.ops (map tree l.values))
