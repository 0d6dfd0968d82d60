use Rattle.std.proofs.Common.{◌≡◌, ◌++◌, map, drop}
use Rattle.fn_tree.specs.SyntaxViews.{table_view}
use Rattle.fn_check.proofs.copy.copy_tables.Given as goal

abbrev pub invariant-loop-table : goal.invariant-loop-table
invariant-loop-table l = map table_view l.copies.items ++ map table_view (drop l.table-index l.tables) ≡ map table_view l.tables
