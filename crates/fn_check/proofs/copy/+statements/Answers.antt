use Rattle.std.proofs.Common.{◌≡◌, ◌∙◌, ap, sym, map, List, Option, Some, Vec}
use Rattle.std.specs.declared.alloc.Global.{Global}
use Rattle.fn_tree.proofs.FormViews.{act-If}
use Rattle.fn_tree.specs.SyntaxTree as plain
use Rattle.fn_tree.specs.SyntaxViews.{act_view, expr_view, stmt_view, stmts_of}
use Rattle.fn_tree.specs.declared.syntax.Expr.{Expr}
use Rattle.fn_tree.specs.declared.syntax.Stmt.{Stmt}
use Rattle.fn_tree.specs.declared.syntax.StmtForm.TheVariants as act
use Rattle.fn_check.proofs.copy.+statements.Goals as goal

choice_copied : (e d : Expr) (chosen first other second : Vec Stmt Global) → expr_view d ≡ expr_view e → map stmt_view first.items ≡ map stmt_view chosen.items → map stmt_view second.items ≡ map stmt_view other.items → act_view (act.If d first (Some second)) ≡ act_view (act.If e chosen (Some other))
choice_copied e d chosen first other second p q r =
    act-If d first (Some second)
    ∙ ap (λ (x : plain.Expr). plain.choose x (stmts_of (map stmt_view first.items)) (plain.or_else (stmts_of (map stmt_view second.items)))) p
    ∙ ap (λ (x : List plain.Stmt). plain.choose (expr_view e) (stmts_of x) (plain.or_else (stmts_of (map stmt_view second.items)))) q
    ∙ ap (λ (x : List plain.Stmt). plain.choose (expr_view e) (stmts_of (map stmt_view chosen.items)) (plain.or_else (stmts_of x))) r
    ∙ sym (act-If e chosen (Some other))

pub copy_act-returns-in_ok-other-in-Some : goal.copy_act-returns-in_ok-other-in-Some
copy_act-returns-in_ok-other-in-Some t c =
    choice_copied c.in-If.test _ c.in-If.chosen _ c.in-Some.other _
    c.in_ok-test-in-If.ensures
    (c.in_ok-chosen-in-If.ensures ∙ ap (map stmt_view) c.deref.ensures.value)
    (c.in_ok-other-in-Some.ensures ∙ ap (map stmt_view) c.deref-in-Some.ensures.value)
    ∙ ap act_view (ap (λ (o : Option (Vec Stmt Global)). act.If c.in-If.test c.in-If.chosen o) (sym c.in-Some.is) ∙ sym c.in-If.is)
