use Rattle.std.proofs.Common.{◌≡◌, map, drop}
use Rattle.fn_check.specs.Effects.{stmts_do}
use Rattle.fn_tree.specs.SyntaxViews.{stmt_view, stmts_of}
use Rattle.fn_check.proofs.effects.+statement_effects.Given as goal

abbrev pub invariant-stmts_do-loop-stmt : goal.invariant-stmts_do-loop-stmt
invariant-stmts_do-loop-stmt l = stmts_do l.effect l.scope (stmts_of (map stmt_view (drop l.stmt-index l.stmts))) ≡ stmts_do l.effect l.scope (stmts_of (map stmt_view l.stmts))
