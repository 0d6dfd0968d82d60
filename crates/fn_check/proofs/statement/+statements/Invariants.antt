use Rattle.std.proofs.Common.{◌≡◌, map, drop}
use Rattle.fn_check.specs.Statements.{stmts_fault, after_stmts}
use Rattle.fn_tree.specs.SyntaxViews.{stmt_view, stmts_of}
use Rattle.fn_check.proofs.statement.+statements.Given as goal

abbrev pub invariant-check_stmts-loop-stmt : goal.invariant-check_stmts-loop-stmt
invariant-check_stmts-loop-stmt l = record {
  fault : stmts_fault l.scope (stmts_of (map stmt_view (drop l.stmt-index l.stmts))) ≡ stmts_fault l.initial.scope (stmts_of (map stmt_view l.stmts));
  scope : after_stmts l.scope (stmts_of (map stmt_view (drop l.stmt-index l.stmts))) ≡ after_stmts l.initial.scope (stmts_of (map stmt_view l.stmts));
}
