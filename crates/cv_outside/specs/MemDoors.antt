-- A door in memory.
use Rattle.std.specs.Prelude.{◌≡◌, ℕ, ◌+◌, ◌^◌, ◌<◌, ◌≤◌, List, [], ◌∷◌, length, Some, Result, Ok, Err, Contains, ◌⊎◌}
use Rattle.std.specs.List.{AllByRecursion}
use Rattle.cv_outside.specs.Links.{IsUnused}
use Rattle.cv_outside.specs.Doors.{Doorway}
use Rattle.cv_outside.specs.MemLinks.{LinkState, link_wire}
use Rattle.cv_outside.specs.Plan.{Calls, next, no_calls}
use Rattle.cv_outside.specs.declared.link.LinkFail.{LinkFail}
use Rattle.cv_outside.specs.declared.link.LinkFail.TheVariants.{Failed, Memory}

-- the links left, how many were given, those that were given back, and the calls
pub record DoorState : Type 0 where
  pub links : List LinkState
  pub given : ℕ
  pub back : List LinkState
  pub calls : Calls

-- these links are left, and no call was made yet
abbrev pub opened : List LinkState → List ℕ → DoorState
opened links fails = record { links = links; given = 0; back = []; calls = no_calls fails }

-- no call of these links was answered yet
abbrev pub AllUnused : List LinkState → Type 0
AllUnused links = AllByRecursion (λ l. IsUnused (link_wire l)) links

-- there is room for each link that was given, and no more came back
abbrev pub HasRoom : (given left back room : ℕ) → Type 0
HasRoom given left back room = (back ≤ given) × (given ≤ room) × (given + left < 2 ^ 64)

abbrev pub door_way : DoorState → Doorway LinkState
door_way d = record { given = d.given; back = length d.back; returned = Some d.back; faults = d.calls.failed }

-- a call was made
abbrev pub called : DoorState → DoorState
called d = record d { calls = record d.calls { made = next d.calls.made } }

-- a call was made, which failed
abbrev pub failed : DoorState → DoorState
failed d = record d { calls = record d.calls { made = next d.calls.made; failed = next d.calls.failed } }

-- the next call is listed, or finds no link
abbrev pub IsToFail : DoorState → Type 0
IsToFail d = Contains d.calls.fails d.calls.made ⊎ (d.links ≡ [])

abbrev pub AnswersNext : DoorState → DoorState → Result LinkState LinkFail → Type 0
AnswersNext d e (Ok link) = (d.links ≡ link ∷ e.links) × (e ≡ record (called d) { links = e.links; given = d.given + 1 })
AnswersNext d e (Err Failed) = e ≡ failed d
AnswersNext d e (Err Memory) = e ≡ called d
