use Rattle.std.proofs.Common.{◌≡◌, ◌++◌, map, drop}
use Rattle.fn_tree.specs.SyntaxViews.{stmt_view, stmts_of}
use Rattle.fn_code.specs.Coding.{stmts_code, known_after_all}
use Rattle.fn_code.proofs.emit.statements.+statements.Given as goal

-- with what is left it is the whole
abbrev pub invariant-emit_stmts-loop-stmt : goal.invariant-emit_stmts-loop-stmt
invariant-emit_stmts-loop-stmt l = record {
  code : l.out.items ++ stmts_code l.known (stmts_of (map stmt_view (drop l.stmt-index l.stmts))) ≡ l.initial.out.items ++ stmts_code l.initial.known (stmts_of (map stmt_view l.stmts));
  known : known_after_all l.known (stmts_of (map stmt_view (drop l.stmt-index l.stmts))) ≡ known_after_all l.initial.known (stmts_of (map stmt_view l.stmts));
}
