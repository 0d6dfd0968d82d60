use Rattle.fn_tree.proofs.ModuleTexts.{modules_have_no_fault, at_most_one_fault}
use Rattle.fn_syntax.proofs.laws.one_fault.Goals as goal

pub returns-clause-modules : goal.returns-clause-modules
returns-clause-modules c = modules_have_no_fault

pub returns-clause-faults : goal.returns-clause-faults
returns-clause-faults c = at_most_one_fault
