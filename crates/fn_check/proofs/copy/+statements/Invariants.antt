use Rattle.std.proofs.Common.{◌≡◌, ◌++◌, map, drop}
use Rattle.fn_tree.specs.SyntaxViews.{stmt_view}
use Rattle.fn_check.proofs.copy.+statements.Given as goal

abbrev pub invariant-copy_stmts-loop-stmt : goal.invariant-copy_stmts-loop-stmt
invariant-copy_stmts-loop-stmt l = map stmt_view l.copies.items ++ map stmt_view (drop l.stmt-index l.stmts) ≡ map stmt_view l.stmts
