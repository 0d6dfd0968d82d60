use Rattle.fn_code.proofs.Weights.{steps_fall}
use Rattle.fn_code.proofs.laws.steps_end.Goals as goal

pub returns : goal.returns
returns c = steps_fall
