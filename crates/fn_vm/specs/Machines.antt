-- How a machine follows the course of a run.
use Rattle.std.specs.Prelude.{◌≡◌, Bool, true, false, List}
use Rattle.cv_values.specs.declared.doc.Doc.{Doc}
use Rattle.fn_code.specs.CodeMeans.{Follows}
use Rattle.fn_code.specs.States.{State, Next, on, ends}
use Rattle.fn_code.specs.Steps.{Terms, answered}
use Rattle.fn_code.specs.declared.code.Code.{Code}
use Rattle.fn_tree.specs.Course as course
use Rattle.fn_tree.specs.Functions.{Start}
use Rattle.fn_tree.specs.declared.stop.Put.{Put}
use Rattle.fn_vm.specs.Moves.{Stands}
use Rattle.fn_vm.specs.Views.{state_view, terms_view, outcome_view}
use Rattle.fn_vm.specs.declared.machine.Machine.{Machine}
use Rattle.fn_vm.specs.declared.machine.Phase.{Phase}
use Rattle.fn_vm.specs.declared.machine.Phase.TheVariants.{Running, Refused, Asked, Answered, Putting, Over}
use Rattle.fn_vm.specs.declared.start.Start.{Start as HeldStart}
use Rattle.fn_vm.specs.declared.stop.Stop.{Stop}
use Rattle.fn_vm.specs.declared.stop.Stop.TheVariants as stop

abbrev pub start_view : HeldStart → Start
start_view s = record { udf = s.udf.now; args = s.args.now; origin = s.origin }

-- ---- a run that came to a stop

-- the course asks this, and whatever the rows are, the run goes on from this state by the rest
abbrev pub AsksNext : Terms → Code → course.Course → course.Ask → State → Type 0
AsksNext t code k q s =
    (next : List Doc → course.Course) × (k ≡ course.ask q next) × ((ds : List Doc) → Follows t code (next ds) (answered t code s ds))

-- the course puts this, and the run goes on from this state by the rest
abbrev pub PutsNext : Terms → Code → course.Course → Put → State → Type 0
PutsNext t code k p s = (next : course.Course) × (k ≡ course.put p next) × Follows t code next (on s)

-- the run stopped in this state as its course says
abbrev pub Reaches : Terms → Code → course.Course → Stop → State → Type 0
Reaches t code k (stop.Ask a) s = (q : course.Ask) × Stands a q × AsksNext t code k q s
Reaches t code k (stop.Put p) s = PutsNext t code k p s
Reaches t code k (stop.Done o) s = k ≡ course.done (outcome_view o)

-- ---- machines

abbrev pub is_ready : Phase → Bool
is_ready Running = true
is_ready (Refused o) = true
is_ready (Answered docs) = true
is_ready phase = false

abbrev pub next_in : Terms → Code → State → Phase → Next
next_in t code s (Refused o) = ends (outcome_view o)
next_in t code s (Answered docs) = answered t code s docs.items
next_in t code s phase = on s

-- where a machine stands that came to a stop
abbrev pub phase_behind : Stop → Phase
phase_behind (stop.Ask a) = Asked
phase_behind (stop.Put p) = Putting
phase_behind (stop.Done o) = Over

-- a machine that begins so, whatever its code is
pub record Begins (t : Terms) (m : Machine) (next : Next) : Type 0 where
  pub ready : is_ready m.phase ≡ true
  pub terms : terms_view m.terms ≡ t
  pub begins : (code : Code) → next_in (terms_view m.terms) code (state_view m.run) m.phase ≡ next

-- the machine goes on by this course
pub record Goes (code : Code) (m : Machine) (k : course.Course) : Type 0 where
  pub ready : is_ready m.phase ≡ true
  pub follows : Follows (terms_view m.terms) code k (next_in (terms_view m.terms) code (state_view m.run) m.phase)

-- it waits for the rows of a read, with which it goes on by the rest of its course
pub record WaitsForRows (code : Code) (m : Machine) (next : List Doc → course.Course) : Type 0 where
  pub asked : m.phase ≡ Asked
  pub follows : (ds : List Doc) → Follows (terms_view m.terms) code (next ds) (answered (terms_view m.terms) code (state_view m.run) ds)

-- it waits until a write is placed, behind which it goes on by the rest of its course
pub record WaitsForPut (code : Code) (m : Machine) (next : course.Course) : Type 0 where
  pub putting : m.phase ≡ Putting
  pub follows : Follows (terms_view m.terms) code next (on (state_view m.run))

-- the machine stopped as its course says
abbrev pub Stops : Code → Machine → course.Course → Stop → Type 0
Stops code m k (stop.Ask a) = (q : course.Ask) × (next : List Doc → course.Course) × (k ≡ course.ask q next) × Stands a q × WaitsForRows code m next
Stops code m k (stop.Put p) = (next : course.Course) × (k ≡ course.put p next) × WaitsForPut code m next
Stops code m k (stop.Done o) = k ≡ course.done (outcome_view o)
