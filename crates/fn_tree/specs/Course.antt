-- What a run asks for and what it puts, in order, whatever the answers are.
use Rattle.std.specs.Prelude.{ℕ, Bool, List, [], ◌∷◌, Option}
use Rattle.cv_values.specs.Value.{Value}
use Rattle.cv_values.specs.declared.doc.Doc.{Doc}
use Rattle.cv_values.specs.declared.ids.DocId.{DocId}
use Rattle.cv_keys.specs.Places.{PlaceInterval}
use Rattle.fn_tree.specs.declared.stop.Left.{Left}
use Rattle.fn_tree.specs.declared.stop.Put.{Put}

-- one read: of a document by its id, or of the rows of an interval up to a limit
pub data Ask : Type 0 where
  get_doc : DocId → Left → Ask
  scan_rows : PlaceInterval → (desc : Bool) → (limit : Option ℕ) → Left → Ask

-- what a run answers: a value, or the text of the error that ended it
pub data Reply : Type 0 where
  gives : Value → Reply
  failed : List ℕ → Reply

pub record Outcome : Type 0 where
  pub reply : Reply
  pub cost : ℕ

-- a run is done, or it asks and goes on by the rows that come, or it puts and goes on
pub data Course : Type 0 where
  done : Outcome → Course
  ask : Ask → (List Doc → Course) → Course
  put : Put → Course → Course

-- where a run stops
pub data Stop : Type 0 where
  asked : Ask → Stop
  placed : Put → Stop
  ended : Outcome → Stop

-- the stops in order, as far as these answers lead
abbrev pub stops : Course → List (List Doc) → List Stop
stops (done o) answers = ended o ∷ []
stops (ask q next) [] = asked q ∷ []
stops (ask q next) (a ∷ answers) = asked q ∷ stops (next a) answers
stops (put p next) answers = placed p ∷ stops next answers
