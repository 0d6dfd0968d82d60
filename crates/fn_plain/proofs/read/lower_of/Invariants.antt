use Rattle.std.proofs.Common.{◌≡◌, drop}
use Rattle.cv_keys.specs.Places.{Place}
use Rattle.fn_tree.specs.Reading.{lower_of}
use Rattle.fn_plain.specs.Scopes.{bounds_view}
use Rattle.fn_plain.proofs.read.lower_of.Given as goal

abbrev pub invariant-loop-op : goal.invariant-loop-op
invariant-loop-op l = (p : Place) → lower_of p (bounds_view (drop l.op-index l.bounds)) ≡ lower_of p (bounds_view l.bounds)
