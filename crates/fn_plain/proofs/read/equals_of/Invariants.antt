use Rattle.std.proofs.Common.{◌≡◌, ◌++◌, Some, map, drop}
use Rattle.fn_tree.specs.Reading.{equals_of}
use Rattle.fn_plain.specs.Scopes.{bounds_view}
use Rattle.fn_plain.proofs.read.equals_of.Given as goal

abbrev pub invariant-loop-op : goal.invariant-loop-op
invariant-loop-op l = map Some l.equals ++ equals_of (bounds_view (drop l.op-index l.bounds)) ≡ equals_of (bounds_view l.bounds)
