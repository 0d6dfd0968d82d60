use Rattle.std.proofs.Common.{◌∙◌, ap, List, map, reverse}
use Rattle.cv_values.specs.Trees.{tree}
use Rattle.cv_values.specs.declared.val.Val.{Val}
use Rattle.fn_vm.proofs.Lists.{turned}
use Rattle.fn_vm.proofs.frame.Items.of.Goals as goal

pub returns : goal.returns
returns c = ap (λ (vs : List Val). reverse (map tree vs)) c.reverse.ensures.items ∙ turned c.into_vec-left.result.items ∙ c.into_vec-left.ensures
