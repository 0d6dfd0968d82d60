use Rattle.std.proofs.Common.{◌≡◌, ◌++◌, drop, map}
use Rattle.fn_tree.specs.Schemas.{declared_table}
use Rattle.fn_tree.specs.SyntaxViews.{table_view}
use Rattle.fn_check.proofs.schema.schema_of.Given as goal

abbrev pub invariant-loop-decl : goal.invariant-loop-decl
invariant-loop-decl l = l.tables ++ map declared_table (map table_view (drop l.decl-index l.decls)) ≡ map declared_table (map table_view l.decls)
