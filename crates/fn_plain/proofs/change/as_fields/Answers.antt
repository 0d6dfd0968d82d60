use Rattle.std.proofs.Common.{ap, ◌∙◌}
use Rattle.cv_values.specs.Equality.{pairs_of-members_of}
use Rattle.cv_values.specs.Trees.{tree}
use Rattle.cv_values.specs.declared.val.Val.{Val}
use Rattle.fn_tree.specs.Actions.{as_fields, give}
use Rattle.fn_plain.proofs.change.as_fields.Goals as goal

pub returns-in-Obj-clause-ok : goal.returns-in-Obj-clause-ok
returns-in-Obj-clause-ok c = ap (λ (v : Val). as_fields (tree v)) c.in-Obj.is ∙ ap give (pairs_of-members_of c.in-Obj.fields)
