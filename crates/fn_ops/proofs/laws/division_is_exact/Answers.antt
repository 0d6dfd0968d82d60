use Rattle.fn_ops.proofs.ReadBack.{division_is_exact}
use Rattle.fn_ops.proofs.laws.division_is_exact.Goals as goal

pub returns : goal.returns
returns c = division_is_exact
