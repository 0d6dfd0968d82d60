-- How a turn ended.
use Rattle.std.specs.Prelude.{Bool, true, false}
use Rattle.cv_outside.specs.declared.turnable.Again.{Again}
use Rattle.cv_outside.specs.declared.turnable.Again.TheVariants as answer

abbrev pub is_done : Again → Bool
is_done answer.Again = false
is_done answer.Quiet = false
is_done answer.Done = true
