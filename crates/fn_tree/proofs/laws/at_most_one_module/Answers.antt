use Rattle.fn_tree.proofs.ModuleTexts.{at_most_one_module}
use Rattle.fn_tree.proofs.laws.at_most_one_module.Goals as goal

pub returns : goal.returns
returns c = at_most_one_module
