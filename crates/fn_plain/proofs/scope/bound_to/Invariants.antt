use Rattle.std.proofs.Common.{◌≡◌, length, map, drop, ◌++◌}
use Rattle.std.specs.Prelude.{option_map}
use Rattle.cv_values.specs.Trees.{tree}
use Rattle.fn_tree.specs.Actions.{Scope}
use Rattle.fn_tree.specs.Names.{bound_to}
use Rattle.fn_plain.specs.Scopes.{pairs_view}
use Rattle.fn_plain.proofs.scope.bound_to.Given as goal

-- as many parameters as values are left, and bound to them they follow the variables so far
abbrev pub invariant-loop-param : goal.invariant-loop-param
invariant-loop-param l = record {
  even : length (drop l.param-index l.params) ≡ length l.values.items;
  so_far : option_map (λ (rest : Scope). pairs_view l.scope.items ++ rest) (bound_to (drop l.param-index l.params) (map tree l.values.items)) ≡ bound_to l.params (map tree l.fn.values.items);
}
