-- A number that each instruction lowers, so that a run takes finitely many of them between two stops.
use Rattle.std.specs.Prelude.{◌≡◌, ℕ, ◌+◌, ◌-◌, ◌*◌, ◌<◌, List, length, sum_by}
use Rattle.cv_values.specs.declared.doc.Doc.{Doc}
use Rattle.fn_code.specs.States.{Frame, State, on}
use Rattle.fn_code.specs.Steps.{Terms, step, answered}
use Rattle.fn_code.specs.declared.code.Code.{Code}

-- how many instructions stand at a frame's place and behind it, and one more
abbrev pub frame_weight : Code → Frame → ℕ
frame_weight code f = length code.instrs + 1 - f.at

-- a unit of cost weighs more than a frame can, and all of the frames under way are counted
abbrev pub weight : Terms → Code → State → ℕ
weight t code s =
    (t.limits.cost - s.counts.cost + 1) * (length code.instrs + 2) + frame_weight code s.frame + sum_by (frame_weight code) s.callers

-- where a run goes on at once, it weighs less: behind an instruction, and behind the rows of a read
abbrev pub StepsFall : Type 0
StepsFall = (t : Terms) (code : Code) (s after : State) →
    (step t code s ≡ on after → weight t code after < weight t code s)
    × ((ds : List Doc) → answered t code s ds ≡ on after → weight t code after < weight t code s)
