use Rattle.std.proofs.Common.{◌≡◌, drop, map, []}
use Rattle.fn_check.specs.Tables.{indexes_fault}
use Rattle.fn_tree.specs.SyntaxViews.{index_view}
use Rattle.fn_check.proofs.table.check_indexes.Given as goal

abbrev pub invariant-loop-count : goal.invariant-loop-count
invariant-loop-count l = indexes_fault l.seen.keys l.count (map index_view (drop l.count l.indexes)) ≡ indexes_fault [] 0 (map index_view l.indexes)
