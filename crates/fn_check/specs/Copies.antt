-- What a copy keeps.
use Rattle.std.specs.Prelude.{List, map}
use Rattle.fn_tree.specs.SyntaxTree as plain
use Rattle.fn_tree.specs.SyntaxViews.{expr_view}
use Rattle.fn_tree.specs.declared.syntax.Expr.{Expr}
use Rattle.fn_tree.specs.declared.syntax.Named.{Named}

-- the entries of an object, each name with the plain tree of its expression
abbrev pub entry_views : List (Named × Expr) → List (Named × plain.Expr)
entry_views entries = map (λ p. (p.0, expr_view p.1)) entries
