-- Operands, variables and values taken off the stack.
use Rattle.std.specs.Prelude.{ℕ, zero, suc, List, [], ◌∷◌, Option, Some, None, option_and_then, option_map, slice_get}
use Rattle.cv_values.specs.Value.{Value}
use Rattle.fn_code.specs.declared.code.Source.{Source}
use Rattle.fn_code.specs.declared.code.Source.TheVariants.{Top, Slot}

-- a value and the stack behind it
abbrev pub taken : List Value → Option (Value × List Value)
taken [] = None
taken (v ∷ stack) = Some (v, stack)

-- the value of an operand, and the stack that it leaves
abbrev pub operand : Source → (vars stack : List Value) → Option (Value × List Value)
operand Top vars stack = taken stack
operand (Slot n) vars stack = option_map (λ v. (v, stack)) (slice_get vars n)

-- those of operands in order; the last one was put onto the stack last
abbrev pub operands : List Source → (vars stack : List Value) → Option (List Value × List Value)
operands [] vars stack = Some ([], stack)
operands (s ∷ ss) vars stack =
    option_and_then (λ (rest : List Value × List Value). option_map (λ (first : Value × List Value). (first.0 ∷ rest.0, first.1)) (operand s vars rest.1)) (operands ss vars stack)

-- so many values in the order in which they were put onto the stack, and what is under them
abbrev pub popped : ℕ → (later stack : List Value) → Option (List Value × List Value)
popped zero later stack = Some (later, stack)
popped (suc n) later [] = None
popped (suc n) later (v ∷ stack) = popped n (v ∷ later) stack

-- the variables, where one has the value
abbrev pub stored : ℕ → Value → List Value → List Value
stored n v [] = []
stored zero v (w ∷ vars) = v ∷ vars
stored (suc n) v (w ∷ vars) = w ∷ stored n v vars
