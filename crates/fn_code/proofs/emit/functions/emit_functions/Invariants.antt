use Rattle.std.proofs.Common.{◌≡◌, ◌++◌, map, drop, length}
use Rattle.fn_tree.specs.SyntaxViews.{function_view}
use Rattle.fn_code.specs.Coding.{functions_code, entries_at}
use Rattle.fn_code.proofs.emit.functions.emit_functions.Given as goal

-- with what is left it is the whole
abbrev pub invariant-loop-number : goal.invariant-loop-number
invariant-loop-number l = record {
  code : l.out.items ++ functions_code l.known l.number (map function_view (drop l.number l.functions)) ≡ l.initial.out.items ++ functions_code l.initial.known 0 (map function_view l.functions);
  entries :
      l.entries.items ++ entries_at l.known l.number (length l.out.items) (map function_view (drop l.number l.functions))
      ≡ l.initial.entries.items ++ entries_at l.initial.known 0 (length l.initial.out.items) (map function_view l.functions);
  schema : l.known.schema ≡ l.initial.known.schema;
}
