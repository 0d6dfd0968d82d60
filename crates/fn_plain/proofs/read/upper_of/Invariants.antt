use Rattle.std.proofs.Common.{◌≡◌, drop}
use Rattle.cv_keys.specs.Places.{Place}
use Rattle.fn_tree.specs.Reading.{upper_of}
use Rattle.fn_plain.specs.Scopes.{bounds_view}
use Rattle.fn_plain.proofs.read.upper_of.Given as goal

abbrev pub invariant-loop-op : goal.invariant-loop-op
invariant-loop-op l = (p : Place) → upper_of p (bounds_view (drop l.op-index l.bounds)) ≡ upper_of p (bounds_view l.bounds)
