use Rattle.std.proofs.Common.{◌≡◌, ◌++◌, map, drop}
use Rattle.fn_tree.specs.SyntaxViews.{expr_view, bound_view, exprs_of, entries_of, bounds_of}
use Rattle.fn_code.specs.Coding.{exprs_code, operands_code, entries_code, bounds_code}
use Rattle.fn_code.proofs.emit.expressions.+expressions.Given as goal

-- with what is left it is the whole
abbrev pub invariant-emit_exprs-loop-e : goal.invariant-emit_exprs-loop-e
invariant-emit_exprs-loop-e l = l.out.items ++ exprs_code l.known (exprs_of (map expr_view (drop l.e-index l.es))) ≡ l.initial.out.items ++ exprs_code l.known (exprs_of (map expr_view l.es))

abbrev pub invariant-emit_operands-loop-e : goal.invariant-emit_operands-loop-e
invariant-emit_operands-loop-e l = l.out.items ++ operands_code l.known (exprs_of (map expr_view (drop l.e-index l.es))) ≡ l.initial.out.items ++ operands_code l.known (exprs_of (map expr_view l.es))

abbrev pub invariant-emit_entries-loop-e : goal.invariant-emit_entries-loop-e
invariant-emit_entries-loop-e l =
    l.out.items ++ entries_code l.known (entries_of (map (λ p. (p.0, expr_view p.1)) (drop l.e-index l.entries)))
    ≡ l.initial.out.items ++ entries_code l.known (entries_of (map (λ p. (p.0, expr_view p.1)) l.entries))

abbrev pub invariant-emit_bounds-loop-bound : goal.invariant-emit_bounds-loop-bound
invariant-emit_bounds-loop-bound l = l.out.items ++ bounds_code l.known (bounds_of (map bound_view (drop l.bound-index l.bounds))) ≡ l.initial.out.items ++ bounds_code l.known (bounds_of (map bound_view l.bounds))
