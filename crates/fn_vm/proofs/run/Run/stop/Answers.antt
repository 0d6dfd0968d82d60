use Rattle.std.proofs.Common.{◌∙◌}
use Rattle.fn_vm.proofs.run.Run.stop.Goals as goal

pub returns : goal.returns
returns c x s e = e ∙ c.in_ok-over.ensures
