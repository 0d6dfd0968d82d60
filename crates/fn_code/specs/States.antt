-- Where a machine stands.
use Rattle.std.specs.Prelude.{ℕ, List}
use Rattle.cv_values.specs.Value.{Value}
use Rattle.fn_tree.specs.Actions.{Counts}
use Rattle.fn_tree.specs.Course.{Ask, Outcome, failed}
use Rattle.fn_tree.specs.declared.stop.Put.{Put}

-- a function under way: the place of its next instruction, its variables, the values that aren't used yet, and the items to come of each loop, the innermost first
pub record Frame : Type 0 where
  pub at : ℕ
  pub vars : List Value
  pub stack : List Value
  pub loops : List (List Value)

pub record State : Type 0 where
  pub frame : Frame
  pub callers : List Frame
  pub counts : Counts

-- a state that goes on, one that waits for the rows of a read, one that goes on behind a put, or the end
pub data Next : Type 0 where
  on : State → Next
  asks : Ask → State → Next
  puts : Put → State → Next
  ends : Outcome → Next

abbrev pub fails : Counts → List ℕ → Next
fails c why = ends (record { reply = failed why; cost = c.cost })
