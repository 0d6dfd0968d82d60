-- What an expression means, by its form.
use Rattle.std.proofs.Common.{◌≡◌, ◌∙◌, ◌+◌, Bool, true, false, refl, ap}
use mathlib.Core.Bool.{beq}
use Rattle.fn_tree.specs.Operators.{right_side}
use Rattle.fn_tree.specs.Actions.{Action, ◌>>=◌, give, as_truth, Scope, Site}
use Rattle.fn_tree.specs.Meaning.{expr_means, form_means, stmt_means, act_means}
use Rattle.fn_tree.specs.SyntaxTree as plain
use Rattle.fn_tree.specs.SyntaxViews.{expr_view, form_view}
use Rattle.fn_tree.specs.declared.syntax.Expr.{Expr}
use Rattle.fn_tree.specs.declared.syntax.ExprForm.{ExprForm}
use Rattle.cv_values.specs.Value.{Value, boolean}
use Rattle.fn_plain.specs.Sizes.{expr_size, form_size}
use Rattle.fn_plain.proofs.Views.{viewed}

pub means_form : (e : Expr) (f : ExprForm) → e.form.value ≡ f → (site : Site) (scope : Scope) → expr_means (expr_view e) site scope ≡ form_means (form_view f) site scope
means_form e f h site scope = ap (λ (t : plain.Expr). expr_means t site scope) (viewed e f (form_view f) h refl)

pub size_form : (e : Expr) (f : ExprForm) → e.form.value ≡ f → expr_size (expr_view e) ≡ form_size (form_view f) + 1
size_form e f h = ap expr_size (viewed e f (form_view f) h refl)

pub decided : (d x : Bool) (b : Action Value) → beq x d ≡ true → right_side d x b ≡ give (boolean d)
decided true true b e = refl
decided false false b e = refl
decided true false b e = cc
decided false true b e = cc

pub undecided : (d x : Bool) (b : Action Value) → beq x d ≡ false → right_side d x b ≡ (b >>= (λ w. as_truth w >>= (λ y. give (boolean y))))
undecided true true b e = cc
undecided false false b e = cc
undecided true false b e = refl
undecided false true b e = refl
