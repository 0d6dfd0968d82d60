use Rattle.std.proofs.Common.{◌≡◌, ◌++◌, string_bytes, map, drop}
use Rattle.std.specs.List.{flat_map}
use Rattle.fn_tree.specs.Canonical.{table_text}
use Rattle.fn_tree.specs.SyntaxViews.{table_view}
use Rattle.fn_tree.proofs.printer.declarations.print_tables.Given as goal

-- with what is left it is the whole
abbrev pub invariant-loop-table : goal.invariant-loop-table
invariant-loop-table l = string_bytes l.out ++ flat_map table_text (map table_view (drop l.table-index l.tables)) ≡ string_bytes l.initial.out ++ flat_map table_text (map table_view l.tables)
