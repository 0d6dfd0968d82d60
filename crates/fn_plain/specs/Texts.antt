-- What a fault says.
use Rattle.std.specs.Prelude.{◌≡◌, ℕ, List, codes}
use Rattle.fn_tree.specs.Actions.{Action, type_error}
use Rattle.fn_plain.specs.declared.fault.Fault.{Fault}
use Rattle.fn_plain.specs.declared.fault.Fault.TheVariants.{Failed, Memory}

-- an error has this text; want of memory has none
abbrev pub Says : Fault → List ℕ → Type 0
Says (Failed text) why = text ≡ why
Says Memory why = Unit {0}

-- a value of the wrong kind ends the run
pub record Refuses {A : Type 0} (action : Action A) (fault : Fault) : Type 0 where
  pub is : action ≡ type_error
  pub says : Says fault (codes "TypeError")
