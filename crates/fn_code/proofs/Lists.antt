-- How many expressions a list has.
use Rattle.std.proofs.Common.{◌≡◌, List, [], ◌∷◌, map, length, refl, arith}
use Rattle.fn_tree.specs.SyntaxViews.{expr_view, exprs_of}
use Rattle.fn_tree.specs.declared.syntax.Expr.{Expr}
use Rattle.fn_code.specs.Coding.{count_of}

pub count_is : (es : List Expr) → length es ≡ count_of (exprs_of (map expr_view es))
count_is [] = refl
count_is (e ∷ es) = omega (arith, count_is es)
