use Rattle.std.proofs.Common.{◌≡◌, drop, map, []}
use Rattle.fn_check.specs.Functions.{functions_fault}
use Rattle.fn_tree.specs.SyntaxViews.{function_view}
use Rattle.fn_check.proofs.function.check_functions.Given as goal

abbrev pub invariant-loop-count : goal.invariant-loop-count
invariant-loop-count l = record {
  fault : functions_fault l.scope l.names.keys l.count (map function_view (drop l.count l.functions)) ≡ functions_fault l.initial.scope [] 0 (map function_view l.functions);
  schema : l.scope.schema ≡ l.initial.scope.schema;
}
