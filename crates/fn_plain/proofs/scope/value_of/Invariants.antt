use Rattle.std.proofs.Common.{◌≡◌, drop}
use Rattle.fn_tree.specs.Names.{at_name}
use Rattle.fn_plain.specs.Scopes.{pairs_view}
use Rattle.fn_plain.proofs.scope.value_of.Given as goal

abbrev pub invariant-loop-known : goal.invariant-loop-known
invariant-loop-known l = at_name l.name (pairs_view (drop l.known-index l.scope)) ≡ at_name l.name (pairs_view l.scope)
