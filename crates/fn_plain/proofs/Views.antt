-- The plain tree of an expression of a form, and of a statement.
use Rattle.std.proofs.Common.{◌≡◌, ap, ◌∙◌}
use Rattle.fn_tree.specs.SyntaxTree as plain
use Rattle.fn_tree.specs.SyntaxViews.{expr_view, bound_view, form_view, BoundView, form_step, bound_step, expr_step, stmt_view, act_view, act_step, stmt_step}
use Rattle.fn_tree.specs.declared.syntax.Expr.{Expr}
use Rattle.fn_tree.specs.declared.syntax.ExprForm.{ExprForm}
use Rattle.fn_tree.specs.declared.syntax.ExprForm.TheFolds.{fold_out-Expr, fold_out-BoundExpr}
use Rattle.fn_tree.specs.declared.syntax.BoundExpr.{BoundExpr}
use Rattle.fn_tree.specs.declared.syntax.Stmt.{Stmt}
use Rattle.fn_tree.specs.declared.syntax.StmtForm.{StmtForm}
use Rattle.fn_tree.specs.declared.syntax.StmtForm.TheFolds.{fold_out-Stmt}

pub viewed : (e : Expr) (f : ExprForm) (p : plain.Form) → e.form.value ≡ f → form_view f ≡ p → expr_view e ≡ plain.expr e.at p
viewed e f p h q = fold_out-Expr plain.Form BoundView plain.Expr form_step bound_step expr_step e ∙ ap (plain.expr e.at) (ap form_view h ∙ q)

pub done_as : (s : Stmt) (f : StmtForm) (p : plain.Act) → s.form ≡ f → act_view f ≡ p → stmt_view s ≡ plain.stmt s.at p
done_as s f p h q = fold_out-Stmt plain.Act plain.Stmt act_step stmt_step s ∙ ap (plain.stmt s.at) (ap act_view h ∙ q)

pub bound_is : (b : BoundExpr) → bound_view b ≡ (b.field, b.op, expr_view b.value)
bound_is b = fold_out-BoundExpr plain.Form BoundView plain.Expr form_step bound_step expr_step b
