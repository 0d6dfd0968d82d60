-- What a write leaves.
use Rattle.std.specs.Prelude.{ℕ, List, ◌+◌, ◌∷◌}
use Rattle.cv_values.specs.Value.{Value}
use Rattle.fn_code.specs.States.{State}
use Rattle.fn_code.specs.Steps.{behind}
use Rattle.fn_tree.specs.Writing.{with_members}
use Rattle.fn_vm.specs.declared.rows.Change.{Change}
use Rattle.fn_vm.specs.declared.rows.Change.TheVariants.{Patch, Replace}

-- so many inserts more
abbrev pub begun : State → ℕ → State
begun s made = record s { counts = record s.counts { inserts = s.counts.inserts + made } }

-- behind the instruction, with a value more
abbrev pub behind_write : State → ℕ → Value → State
behind_write s made v = record (begun s made) { frame = behind s.frame (v ∷ s.frame.stack) }

-- the fields that a change leaves
abbrev pub changed : Change → (new old : List (List ℕ × Value)) → List (List ℕ × Value)
changed Patch new old = with_members new old
changed Replace new old = new
