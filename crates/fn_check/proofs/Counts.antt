-- How many expressions a list has.
use Rattle.std.proofs.Common.{◌≡◌, List, [], ◌∷◌, map, length, refl, ap, suc}
use Rattle.fn_check.specs.Expressions.{count_of}
use Rattle.fn_tree.specs.SyntaxViews.{expr_view, exprs_of}
use Rattle.fn_tree.specs.declared.syntax.Expr.{Expr}

pub count_is : (es : List Expr) → length es ≡ count_of (exprs_of (map expr_view es))
count_is [] = refl
count_is (e ∷ es) = ap suc (count_is es)
