-- What the values on a stack ask for.
use Rattle.std.specs.Prelude.{Bool, true, false, List, ◌∷◌, Option, Some, None}
use Rattle.cv_values.specs.Ids.{read_id}
use Rattle.cv_values.specs.Value.{Value, string, object}
use Rattle.cv_values.specs.declared.ids.DocId.{DocId}
use Rattle.fn_code.specs.declared.code.Code.{Code}
use Rattle.fn_tree.specs.Reading.{id_in}
use Rattle.fn_vm.specs.declared.reads.Target.{Target}
use Rattle.fn_vm.specs.declared.reads.Target.TheVariants.{Missing, Bad, Found}

abbrev pub found : Option DocId → Target
found None = Bad
found (Some id) = Found id

-- the id that a value is the text of
abbrev pub target_in : Code → Value → Target
target_in code (string text) = found (id_in code.schema (read_id text))
target_in code v = Missing

abbrev pub target_at : Code → Option Value → Target
target_at code None = Missing
target_at code (Some v) = target_in code v

-- whether an object is on top
abbrev pub object_on : List Value → Bool
object_on (object ms ∷ stack) = true
object_on stack = false
