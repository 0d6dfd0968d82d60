use Rattle.fn_code.proofs.CodesMean.{codes_mean}
use Rattle.fn_code.proofs.laws.codes_mean.Goals as goal

pub returns : goal.returns
returns c = codes_mean
