use Rattle.std.proofs.Common.{◌≡◌, ◌++◌, string_bytes, map, drop}
use Rattle.std.specs.List.{flat_map}
use Rattle.fn_tree.specs.Canonical.{function_text}
use Rattle.fn_tree.specs.SyntaxViews.{function_view}
use Rattle.fn_tree.proofs.printer.declarations.print_functions.Given as goal

-- with what is left it is the whole
abbrev pub invariant-loop-function : goal.invariant-loop-function
invariant-loop-function l = string_bytes l.out ++ flat_map function_text (map function_view (drop l.function-index l.functions)) ≡ string_bytes l.initial.out ++ flat_map function_text (map function_view l.functions)
