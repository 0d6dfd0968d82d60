use Rattle.std.proofs.Common.{◌≡◌, ◌++◌, string_bytes, map, drop}
use Rattle.fn_tree.specs.Canonical.{stmts_text}
use Rattle.fn_tree.specs.SyntaxViews.{stmt_view, stmts_of}
use Rattle.fn_tree.proofs.printer.statements.+print.Given as goal

-- with what is left it is the whole
abbrev pub invariant-print_block-loop-stmt : goal.invariant-print_block-loop-stmt
invariant-print_block-loop-stmt l = string_bytes l.out ++ stmts_text (stmts_of (map stmt_view (drop l.stmt-index l.stmts))) ≡ string_bytes l.initial.out ++ stmts_text (stmts_of (map stmt_view l.stmts))
