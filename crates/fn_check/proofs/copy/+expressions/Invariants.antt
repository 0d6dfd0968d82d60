use Rattle.std.proofs.Common.{◌≡◌, ◌++◌, map, drop}
use Rattle.fn_tree.specs.SyntaxViews.{expr_view, bound_view}
use Rattle.fn_check.specs.Copies.{entry_views}
use Rattle.fn_check.proofs.copy.+expressions.Given as goal

abbrev pub invariant-copy_exprs-loop-e : goal.invariant-copy_exprs-loop-e
invariant-copy_exprs-loop-e l = map expr_view l.copies.items ++ map expr_view (drop l.e-index l.es) ≡ map expr_view l.es

abbrev pub invariant-copy_entries-loop-name : goal.invariant-copy_entries-loop-name
invariant-copy_entries-loop-name l = entry_views l.copies.items ++ entry_views (drop l.name-index l.entries) ≡ entry_views l.entries

abbrev pub invariant-copy_bounds-loop-bound : goal.invariant-copy_bounds-loop-bound
invariant-copy_bounds-loop-bound l = map bound_view l.copies.items ++ map bound_view (drop l.bound-index l.bounds) ≡ map bound_view l.bounds
