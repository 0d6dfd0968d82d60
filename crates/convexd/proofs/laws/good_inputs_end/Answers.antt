use Rattle.convexd.proofs.Replaying.{good_ends}
use Rattle.convexd.proofs.laws.good_inputs_end.Goals as goal

pub returns : goal.returns
returns c = good_ends c.at_most_one_module.ensures c.one_fault.ensures.modules
