use Rattle.std.proofs.Common.{◌≡◌, ◌++◌, drop, map}
use Rattle.fn_tree.specs.Schemas.{declared_index}
use Rattle.fn_tree.specs.SyntaxViews.{index_view}
use Rattle.fn_check.proofs.schema.push_indexes.Given as goal

abbrev pub invariant-loop-decl : goal.invariant-loop-decl
invariant-loop-decl l = l.indexes ++ map declared_index (map index_view (drop l.decl-index l.decls)) ≡ l.initial.indexes ++ map declared_index (map index_view l.decls)
