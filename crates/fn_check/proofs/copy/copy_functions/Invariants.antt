use Rattle.std.proofs.Common.{◌≡◌, ◌++◌, map, drop}
use Rattle.fn_tree.specs.SyntaxViews.{function_view}
use Rattle.fn_check.proofs.copy.copy_functions.Given as goal

abbrev pub invariant-loop-function : goal.invariant-loop-function
invariant-loop-function l = map function_view l.copies.items ++ map function_view (drop l.function-index l.functions) ≡ map function_view l.functions
