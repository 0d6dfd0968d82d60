use Rattle.std.proofs.Common.{◌+◌, ◌-◌, ◌++◌, map, drop}
use Rattle.std.specs.Option.{option_map}
use Rattle.cv_values.specs.Trees.{tree}
use Rattle.fn_tree.specs.Actions.{◌>>=◌, give}
use Rattle.fn_tree.specs.Meaning.{exprs_mean, entries_mean, bounds_mean, turns, stmts_mean}
use Rattle.fn_tree.specs.SyntaxViews.{expr_view, bound_view, exprs_of, entries_of, bounds_of, limit_of, stmt_view, stmts_of}
use Rattle.fn_plain.specs.Scopes.{pairs_view, bounds_view, turn_of}
use Rattle.fn_plain.specs.States.{IsWithin, site_at}
use Rattle.fn_plain.specs.Sizes.{size_at, expr_size, exprs_size, entries_size, bounds_size, limit_size, stmt_size, stmts_size}
use Rattle.fn_plain.proofs.Steps.{Reaches, Comes}
use Rattle.fn_plain.proofs.play.+play.Given as goal

abbrev pub decreases-play_expr : goal.decreases-play_expr
decreases-play_expr l = size_at l.context.now l.seen + expr_size (expr_view l.e.now)

abbrev pub decreases-play_exprs : goal.decreases-play_exprs
decreases-play_exprs l = size_at l.context.now l.seen + exprs_size (exprs_of (map expr_view l.es.now))

abbrev pub decreases-play_entries : goal.decreases-play_entries
decreases-play_entries l = size_at l.context.now l.seen + entries_size (entries_of (map (λ p. (p.0, expr_view p.1)) l.entries.now))

abbrev pub decreases-play_bounds : goal.decreases-play_bounds
decreases-play_bounds l = size_at l.context.now l.seen + bounds_size (bounds_of (map bound_view l.bounds.now))

abbrev pub decreases-play_either : goal.decreases-play_either
decreases-play_either l = size_at l.context.now l.seen + expr_size (expr_view l.a.now) + expr_size (expr_view l.b.now) + 1

abbrev pub decreases-play_limit : goal.decreases-play_limit
decreases-play_limit l = size_at l.context.now l.seen + limit_size (limit_of (option_map expr_view l.take.now))

abbrev pub decreases-call_helper : goal.decreases-call_helper
decreases-call_helper l = size_at l.context.now l.seen

abbrev pub decreases-play_function : goal.decreases-play_function
decreases-play_function l = size_at l.context.now (l.number + 1) - 1

abbrev pub decreases-play_block : goal.decreases-play_block
decreases-play_block l = size_at l.context.now l.seen + stmts_size (stmts_of (map stmt_view l.stmts.now))

abbrev pub decreases-play_stmt : goal.decreases-play_stmt
decreases-play_stmt l = size_at l.context.now l.seen + stmt_size (stmt_view l.stmt.now)

abbrev pub decreases-play_turns : goal.decreases-play_turns
decreases-play_turns l = size_at l.context.now l.seen + stmts_size (stmts_of (map stmt_view l.body.now)) + 1

abbrev pub invariant-play_exprs-loop-e : goal.invariant-play_exprs-loop-e
invariant-play_exprs-loop-e l = record {
  within : IsWithin 0 l.context l.progress.counts;
  reached : Reaches l.context l.initial.progress l.progress
      (exprs_mean (exprs_of (map expr_view l.es)) (site_at l.context l.seen) (pairs_view l.scope))
      (exprs_mean (exprs_of (map expr_view (drop l.e-index l.es))) (site_at l.context l.seen) (pairs_view l.scope) >>= (λ vs. give (map tree l.values.items ++ vs)));
}

abbrev pub invariant-play_entries-loop-name : goal.invariant-play_entries-loop-name
invariant-play_entries-loop-name l = record {
  within : IsWithin 0 l.context l.progress.counts;
  reached : Reaches l.context l.initial.progress l.progress
      (entries_mean (entries_of (map (λ p. (p.0, expr_view p.1)) l.entries)) (site_at l.context l.seen) (pairs_view l.scope))
      (entries_mean (entries_of (map (λ p. (p.0, expr_view p.1)) (drop l.name-index l.entries))) (site_at l.context l.seen) (pairs_view l.scope) >>= (λ ms. give (pairs_view l.values.items ++ ms)));
}

abbrev pub invariant-play_bounds-loop-bound : goal.invariant-play_bounds-loop-bound
invariant-play_bounds-loop-bound l = record {
  within : IsWithin 0 l.context l.progress.counts;
  reached : Reaches l.context l.initial.progress l.progress
      (bounds_mean (bounds_of (map bound_view l.bounds)) (site_at l.context l.seen) (pairs_view l.scope))
      (bounds_mean (bounds_of (map bound_view (drop l.bound-index l.bounds))) (site_at l.context l.seen) (pairs_view l.scope) >>= (λ bs. give (bounds_view l.values.items ++ bs)));
}

abbrev pub invariant-play_block-loop-stmt : goal.invariant-play_block-loop-stmt
invariant-play_block-loop-stmt l = record {
  within : IsWithin 0 l.context l.progress.counts;
  came : Comes l.context l.initial.progress l.progress
      (λ back. stmts_mean (stmts_of (map stmt_view l.stmts)) (site_at l.context l.seen) back (pairs_view l.initial.scope.items))
      (λ back. stmts_mean (stmts_of (map stmt_view (drop l.stmt-index l.stmts))) (site_at l.context l.seen) back (pairs_view l.scope.items));
}

abbrev pub invariant-play_turns-loop-item : goal.invariant-play_turns-loop-item
invariant-play_turns-loop-item l = record {
  within : IsWithin 0 l.context l.progress.counts;
  came : Comes l.context l.initial.progress l.progress
      (λ back. turns (site_at l.context l.seen) (turn_of (site_at l.context l.seen) back l.name (stmts_of (map stmt_view l.body))) (map tree l.items) (pairs_view l.initial.scope.items))
      (λ back. turns (site_at l.context l.seen) (turn_of (site_at l.context l.seen) back l.name (stmts_of (map stmt_view l.body))) (map tree (drop l.item-index l.items)) (pairs_view l.scope.items));
}
