use Rattle.std.proofs.Common.{refl}
use Rattle.std.specs.Fmt.{digits}
use Rattle.fn_ops.proofs.laws.worked_operations.Goals as goal

pub returns-clause-integers : goal.returns-clause-integers
unfolding digits
returns-clause-integers c = (refl, refl, refl, refl, refl, refl, refl, refl, refl, refl, refl, refl, refl, refl)
