use Rattle.std.proofs.Common.{ap, ◌∙◌}
use Rattle.std.specs.Prelude.{map, length}
use Rattle.fn_tree.specs.SyntaxViews.{module_view}
use Rattle.cv_core.proofs.Committing.{new_core}
use Rattle.cv_core.proofs.the_core.Core.new.Goals as goal

pub invariant_of-result : goal.invariant_of-result
invariant_of-result c =
    new_core (module_view c.args.checked.tree) c.new-2.result c.in_ok-rows.rows c.new-2.ensures.entries c.new-2.ensures.marks c.in_ok-rows.ensures.docs
    (c.in_ok-rows.ensures.shape ∙ ap (λ s. map (λ t. length t.indexes) s.tables) c.schema.ensures.schema) c.in_ok-rows.ensures.rows
