use Rattle.std.proofs.Common.{ap, ◌∙◌}
use Rattle.cv_values.specs.Equality.{list_of-values_of}
use Rattle.cv_values.specs.Trees.{tree}
use Rattle.cv_values.specs.declared.val.Val.{Val}
use Rattle.fn_tree.specs.Actions.{as_items, give}
use Rattle.fn_plain.proofs.play.as_items.Goals as goal

pub returns-in-Arr-clause-ok : goal.returns-in-Arr-clause-ok
returns-in-Arr-clause-ok c = ap (λ (v : Val). as_items (tree v)) c.in-Arr.is ∙ ap give (list_of-values_of c.in-Arr.items)
