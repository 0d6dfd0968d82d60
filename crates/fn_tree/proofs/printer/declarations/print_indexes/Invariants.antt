use Rattle.std.proofs.Common.{◌≡◌, ◌++◌, string_bytes, map, drop}
use Rattle.std.specs.List.{flat_map}
use Rattle.fn_tree.specs.Canonical.{index_text}
use Rattle.fn_tree.specs.SyntaxViews.{index_view}
use Rattle.fn_tree.proofs.printer.declarations.print_indexes.Given as goal

-- with what is left it is the whole
abbrev pub invariant-loop-index : goal.invariant-loop-index
invariant-loop-index l = string_bytes l.out ++ flat_map index_text (map index_view (drop l.index-index l.indexes)) ≡ string_bytes l.initial.out ++ flat_map index_text (map index_view l.indexes)
