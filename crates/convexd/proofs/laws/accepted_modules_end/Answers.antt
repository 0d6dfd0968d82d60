use Rattle.convexd.proofs.Checking.{ends, same_text}
use Rattle.convexd.proofs.laws.accepted_modules_end.Goals as goal

pub returns-clause-ends : goal.returns-clause-ends
returns-clause-ends c = ends c.at_most_one_module.ensures c.one_fault.ensures.modules

pub returns-clause-one : goal.returns-clause-one
returns-clause-one c = same_text c.at_most_one_module.ensures
