use Rattle.std.proofs.Common.{◌≡◌, map, drop}
use Rattle.fn_check.specs.Effects.{exprs_do, entries_do, bounds_do}
use Rattle.fn_tree.specs.SyntaxViews.{expr_view, bound_view, exprs_of, entries_of, bounds_of}
use Rattle.fn_check.proofs.effects.+effects.Given as goal

abbrev pub invariant-exprs_do-loop-e : goal.invariant-exprs_do-loop-e
invariant-exprs_do-loop-e l = exprs_do l.effect l.scope (exprs_of (map expr_view (drop l.e-index l.es))) ≡ exprs_do l.effect l.scope (exprs_of (map expr_view l.es))

abbrev pub invariant-entries_do-loop-e : goal.invariant-entries_do-loop-e
invariant-entries_do-loop-e l = entries_do l.effect l.scope (entries_of (map (λ p. (p.0, expr_view p.1)) (drop l.e-index l.fields))) ≡ entries_do l.effect l.scope (entries_of (map (λ p. (p.0, expr_view p.1)) l.fields))

abbrev pub invariant-bounds_do-loop-bound : goal.invariant-bounds_do-loop-bound
invariant-bounds_do-loop-bound l = bounds_do l.effect l.scope (bounds_of (map bound_view (drop l.bound-index l.bounds))) ≡ bounds_do l.effect l.scope (bounds_of (map bound_view l.bounds))
