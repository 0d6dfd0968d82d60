use Rattle.std.proofs.Common.{◌≡◌, ◌++◌, string_bytes, map, drop, true}
use Rattle.fn_tree.specs.Canonical.{exprs_text, entries_text, bounds_text}
use Rattle.fn_tree.specs.SyntaxViews.{expr_view, bound_view, exprs_of, entries_of, bounds_of}
use Rattle.fn_tree.proofs.printer.expressions.+print.Given as goal

-- with what is left it is the whole
abbrev pub invariant-print_exprs-loop-e : goal.invariant-print_exprs-loop-e
invariant-print_exprs-loop-e l = string_bytes l.out ++ exprs_text l.first (exprs_of (map expr_view (drop l.e-index l.es))) ≡ string_bytes l.initial.out ++ exprs_text true (exprs_of (map expr_view l.es))

abbrev pub invariant-print_entries-loop-name : goal.invariant-print_entries-loop-name
invariant-print_entries-loop-name l = string_bytes l.out ++ entries_text l.first (entries_of (map (λ p. (p.0, expr_view p.1)) (drop l.name-index l.es))) ≡ string_bytes l.initial.out ++ entries_text true (entries_of (map (λ p. (p.0, expr_view p.1)) l.es))

abbrev pub invariant-print_bounds-loop-bound : goal.invariant-print_bounds-loop-bound
invariant-print_bounds-loop-bound l = string_bytes l.out ++ bounds_text (bounds_of (map bound_view (drop l.bound-index l.bounds))) ≡ string_bytes l.initial.out ++ bounds_text (bounds_of (map bound_view l.bounds))
