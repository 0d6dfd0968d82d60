use Rattle.std.proofs.Common.{◌≡◌}
use Rattle.std.specs.Prelude.{None}
use Rattle.fn_tree.specs.Names.{at_name}
use Rattle.fn_plain.specs.States.{site_at}
use Rattle.fn_plain.proofs.scope.find_helper.Given as goal

abbrev pub invariant-loop-number : goal.invariant-loop-number
invariant-loop-number l = at_name l.name (site_at l.context l.number).helpers ≡ None
