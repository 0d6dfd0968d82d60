use Rattle.fn_load.proofs.OneAnswer.{one_module, no_cause, one_cause}
use Rattle.fn_load.proofs.laws.one_answer.Goals as goal

pub returns-clause-accepted : goal.returns-clause-accepted
returns-clause-accepted c = one_module c.at_most_one_module.ensures

pub returns-clause-apart : goal.returns-clause-apart
returns-clause-apart c = no_cause c.at_most_one_module.ensures c.one_fault.ensures.modules

pub returns-clause-causes : goal.returns-clause-causes
returns-clause-causes c = one_cause c.at_most_one_module.ensures c.one_fault.ensures.modules c.one_fault.ensures.faults
