use Rattle.std.proofs.Common.{◌≡◌, ◌++◌, drop, map}
use Rattle.fn_tree.specs.SyntaxViews.{expr_view, exprs_of}
use Rattle.fn_code.specs.Coding.{sources_of}
use Rattle.fn_code.proofs.emit.operands.sources_of.Given as goal

abbrev pub invariant-loop-e : goal.invariant-loop-e
invariant-loop-e l = l.sources ++ sources_of l.known (exprs_of (map expr_view (drop l.e-index l.es))) ≡ sources_of l.known (exprs_of (map expr_view l.es))
