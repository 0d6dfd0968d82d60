use Rattle.std.proofs.Common.{◌≡◌, drop, map, []}
use Rattle.fn_check.specs.Tables.{tables_fault}
use Rattle.fn_tree.specs.SyntaxViews.{table_view}
use Rattle.fn_check.proofs.table.check_tables.Given as goal

abbrev pub invariant-loop-count : goal.invariant-loop-count
invariant-loop-count l = tables_fault l.seen.keys l.count (map table_view (drop l.count l.tables)) ≡ tables_fault [] 0 (map table_view l.tables)
