use Rattle.std.proofs.Common.{◌≡◌, ◌++◌, drop, map}
use Rattle.fn_tree.specs.SyntaxViews.{expr_view, entries_of}
use Rattle.fn_code.specs.Coding.{names_of}
use Rattle.fn_code.proofs.emit.operands.names_of.Given as goal

abbrev pub invariant-loop-name : goal.invariant-loop-name
invariant-loop-name l =
    l.names ++ names_of (entries_of (map (λ p. (p.0, expr_view p.1)) (drop l.name-index l.entries)))
    ≡ names_of (entries_of (map (λ p. (p.0, expr_view p.1)) l.entries))
