use Rattle.std.proofs.Common.{◌≡◌, ◌++◌, map, drop}
use Rattle.fn_tree.specs.SyntaxViews.{index_view}
use Rattle.fn_check.proofs.copy.copy_indexes.Given as goal

abbrev pub invariant-loop-index : goal.invariant-loop-index
invariant-loop-index l = map index_view l.copies.items ++ map index_view (drop l.index-index l.indexes) ≡ map index_view l.indexes
