-- The plain tree of an expression of a form.
use Rattle.std.proofs.Common.{◌≡◌, ap, ◌∙◌}
use Rattle.fn_tree.specs.SyntaxTree as plain
use Rattle.fn_tree.specs.SyntaxViews.{expr_view, form_view, BoundView, form_step, bound_step, expr_step}
use Rattle.fn_tree.specs.declared.syntax.Expr.{Expr}
use Rattle.fn_tree.specs.declared.syntax.ExprForm.{ExprForm}
use Rattle.fn_tree.specs.declared.syntax.ExprForm.TheFolds.{fold_out-Expr}

pub viewed : (e : Expr) (f : ExprForm) (p : plain.Form) → e.form.value ≡ f → form_view f ≡ p → expr_view e ≡ plain.expr e.at p
viewed e f p h q = fold_out-Expr plain.Form BoundView plain.Expr form_step bound_step expr_step e ∙ ap (plain.expr e.at) (ap form_view h ∙ q)
