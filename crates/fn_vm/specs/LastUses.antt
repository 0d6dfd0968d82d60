-- Pairs of instructions, the first of which uses the value of a variable for the last time.
use Rattle.std.specs.Prelude.{◌≡◌, ◌⊎◌, ℕ, List, [], ◌∷◌, Option}
use Rattle.cv_values.specs.Value.{Value}
use Rattle.fn_code.specs.States.{State, Next, on}
use Rattle.fn_code.specs.Steps.{Terms, step_by, step}
use Rattle.fn_code.specs.declared.code.Code.{Code}
use Rattle.fn_code.specs.declared.code.Instr.{Instr}
use Rattle.fn_code.specs.declared.code.Instr.TheVariants as instr
use Rattle.fn_code.specs.declared.code.Source.TheVariants.{Slot}
use Rattle.fn_tree.specs.declared.syntax.Builtin.TheVariants as builtin
use Rattle.fn_vm.specs.Moves.{Moves}
use Rattle.fn_vm.specs.declared.last_use.LastUse.{LastUse}
use Rattle.fn_vm.specs.declared.last_use.LastUse.TheVariants.{Push, Set, Return}
use Rattle.fn_vm.specs.declared.stop.Stop.{Stop}

abbrev pub first_in : LastUse → Instr
first_in (Push n x) = instr.Builtin builtin.Push (Slot n ∷ x ∷ [])
first_in (Set n x y) = instr.Builtin builtin.Set (Slot n ∷ x ∷ y ∷ [])
first_in (Return n) = instr.Load n

abbrev pub second_in : LastUse → Instr
second_in (Push n x) = instr.Store n
second_in (Set n x y) = instr.Store n
second_in (Return n) = instr.Return

-- the next instruction, where one led on
abbrev pub followed_by : Terms → Code → Instr → Next → Next
followed_by t code i (on s) = step_by t code s i
followed_by t code i x = x

-- one instruction led there, or two
abbrev pub Leads : Terms → Code → State → Option Stop → State → Type 0
Leads t code s stop after =
    Moves (step t code s) stop after ⊎ ((between : State) × (step t code s ≡ on between) × Moves (step t code between) stop after)

-- the state with other variables
abbrev pub with_vars : List Value → State → State
with_vars vars s = record s { frame = record s.frame { vars = vars } }
