-- Operands that were taken, and what an operation gives of them.
use Rattle.std.specs.Prelude.{◌≡◌, ◌≢◌, List, [], ◌∷◌, Option, Some, None, option_and_then, option_map, Result, Ok, Err, IfOk, IfErr, slice_get}
use Rattle.cv_values.specs.Trees.{tree}
use Rattle.cv_values.specs.Value.{Value}
use Rattle.cv_values.specs.declared.val.Val.{Val}
use Rattle.fn_ops.specs.Operations.{Given}
use Rattle.fn_ops.specs.declared.fault.OpFault.{OpFault}
use Rattle.fn_ops.specs.declared.fault.OpFault.TheVariants.{Type_, Memory}
use Rattle.fn_vm.specs.declared.operands.Operand.{Operand}
use Rattle.fn_vm.specs.declared.operands.Operand.TheVariants.{Taken, Slot, Missing}

abbrev pub value_of : Operand → List Value → Option Value
value_of (Taken v) vars = Some (tree v)
value_of (Slot n) vars = slice_get vars n
value_of Missing vars = None

-- what a call gave is what the operation gives, unless memory was refused
abbrev pub IsGiven : Result Val OpFault → Given → Type 0
IsGiven r g = (IfOk r (λ v. g ≡ Ok (tree v))) × (IfErr r (λ e. e ≢ Memory → g ≡ Err e))

-- an operand that is missing is of no kind
abbrev pub given_one : (Value → Given) → Option Value → Given
given_one op None = Err Type_
given_one op (Some v) = op v

abbrev pub given_many : (List Value → Given) → Option (List Value) → Given
given_many op None = Err Type_
given_many op (Some vs) = op vs

-- values, where each is there
abbrev pub all_there : List (Option Value) → Option (List Value)
all_there [] = Some []
all_there (x ∷ xs) = option_and_then (λ (vs : List Value). option_map (λ (v : Value). v ∷ vs) x) (all_there xs)
