use Rattle.convexd.proofs.Replaying.{exclude}
use Rattle.convexd.proofs.laws.answers_exclude_each_other.Goals as goal

pub returns : goal.returns
returns c = exclude c.at_most_one_module.ensures c.one_fault.ensures.modules c.one_fault.ensures.faults
