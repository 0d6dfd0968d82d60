-- The first fault of the parts of a text.
use Rattle.std.specs.Prelude.{◌≡◌, ℕ, Bool, if◌then◌else◌, Option, None, Some, Result, Ok, Err}
use Rattle.fn_check.specs.declared.fault.CheckFault.{CheckFault}
use Rattle.fn_check.specs.declared.fault.CheckKind.{CheckKind}
use Rattle.fn_check.specs.declared.fault.Stop.{Stop}
use Rattle.fn_check.specs.declared.fault.Stop.TheVariants.{Fault, Memory}

infixr 20 ◌before◌
-- the first fault of two parts, of which the left one stands before the right one
abbrev pub ◌before◌ : Option CheckFault → Option CheckFault → Option CheckFault
None before later = later
(Some fault) before later = Some fault

-- a fault where the test holds
abbrev pub fault_if : Bool → ℕ → CheckKind → Option CheckFault
fault_if test at kind = if test then Some (record { at = at; kind = kind }) else None

-- a walk ends well where there is no fault, and else stops with the first one, or for want of memory
abbrev pub Tells : {T : Type 0} → Result T Stop → Option CheckFault → Type 0
Tells (Ok _) first = first ≡ None
Tells (Err (Fault fault)) first = first ≡ Some fault
Tells (Err Memory) first = Unit {0}
