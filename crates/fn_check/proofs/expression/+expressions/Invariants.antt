use Rattle.std.proofs.Common.{◌≡◌, map, drop, []}
use Rattle.fn_check.specs.Bounds.{unbounded}
use Rattle.fn_check.specs.Expressions.{exprs_fault, entries_fault, bounds_fault}
use Rattle.fn_tree.specs.SyntaxViews.{expr_view, bound_view, exprs_of, entries_of, bounds_of}
use Rattle.fn_check.proofs.expression.+expressions.Given as goal

abbrev pub invariant-check_exprs-loop-e : goal.invariant-check_exprs-loop-e
invariant-check_exprs-loop-e l = exprs_fault l.scope (exprs_of (map expr_view (drop l.e-index l.es))) ≡ exprs_fault l.scope (exprs_of (map expr_view l.es))

abbrev pub invariant-check_entries-loop-name : goal.invariant-check_entries-loop-name
invariant-check_entries-loop-name l =
    entries_fault l.scope l.seen.keys (entries_of (map (λ p. (p.0, expr_view p.1)) (drop l.name-index l.entries)))
    ≡ entries_fault l.scope [] (entries_of (map (λ p. (p.0, expr_view p.1)) l.entries))

abbrev pub invariant-check_bounds-loop-bound : goal.invariant-check_bounds-loop-bound
invariant-check_bounds-loop-bound l =
    bounds_fault l.scope l.fields l.so_far (bounds_of (map bound_view (drop l.bound-index l.bounds)))
    ≡ bounds_fault l.scope l.fields unbounded (bounds_of (map bound_view l.bounds))
