use Rattle.std.proofs.Common.{◌≡◌, drop}
use Rattle.fn_tree.specs.Reading.{has_bound}
use Rattle.fn_plain.specs.Scopes.{bounds_view}
use Rattle.fn_plain.proofs.read.has_bound.Given as goal

abbrev pub invariant-loop-op : goal.invariant-loop-op
invariant-loop-op l = has_bound (bounds_view (drop l.op-index l.bounds)) ≡ has_bound (bounds_view l.bounds)
