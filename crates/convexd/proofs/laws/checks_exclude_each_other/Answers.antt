use Rattle.convexd.proofs.Checking.{exclude}
use Rattle.convexd.proofs.laws.checks_exclude_each_other.Goals as goal

pub returns : goal.returns
returns c = exclude c.at_most_one_module.ensures c.one_fault.ensures.modules c.one_fault.ensures.faults
