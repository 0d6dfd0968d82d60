use Rattle.std.proofs.Common.{◌≡◌, ◌∙◌, ap, map, []}
use Rattle.fn_check.specs.Known.{Known, inner, with_visible, with_name}
use Rattle.fn_check.specs.Statements.{after_stmts, names_after_all}
use Rattle.fn_tree.specs.SyntaxViews.{stmt_view, stmts_of}
use Rattle.fn_tree.specs.SyntaxTree.{Stmts}
use Rattle.fn_check.proofs.statement.+statements.Goals as goal

after : (ss : Stmts) (k j : Known) → k ≡ j → after_stmts k ss ≡ after_stmts j ss
after ss k j e = ap (λ (x : Known). after_stmts x ss) e

pub check_block-returns-clause-scope : goal.check_block-returns-clause-scope
check_block-returns-clause-scope t c =
    let ss : Stmts = stmts_of (map stmt_view c.args.stmts.now) in
    c.leave.ensures c.args.scope.now (names_after_all [] ss) (c.in_ok-check_stmts.ensures.scope ∙ after ss _ _ c.in_ok-enter.ensures)

pub check_turn-returns-clause-scope : goal.check_turn-returns-clause-scope
check_turn-returns-clause-scope t c =
    let ss : Stmts = stmts_of (map stmt_view c.args.body.now) in
    let e : c.declare.new.self ≡ with_visible (inner c.args.scope.now) c.args.name.now.text = c.in_ok-declare.ensures ∙ ap (λ (x : Known). with_visible x c.args.name.now.text) c.in_ok-enter.ensures in
    c.leave.ensures c.args.scope.now (names_after_all (with_name [] c.args.name.now.text) ss) (c.in_ok-check_stmts.ensures.scope ∙ after ss _ _ e)
