-- What documents answer to a read.
use Rattle.std.specs.Prelude.{◌≡◌, ◌<◌, ◌^◌}
use Rattle.cv_keys.specs.Intervals.{in_bytes}
use Rattle.cv_keys.specs.Places.{PlaceInterval}
use Rattle.fn_tree.specs.Course as course
use Rattle.fn_tree.specs.Scan.{Answer}
use Rattle.fn_tree.specs.declared.stop.Answer.{Answer as HeldAnswer}
use Rattle.fn_tree.specs.declared.stop.Ask.{Ask}
use Rattle.fn_tree.specs.declared.stop.Ask.TheVariants.{Get, Scan}
use Rattle.fn_plain.specs.Scans.{Stands}

-- the size that is left can be counted
abbrev pub HasRoomLeft : Ask → Type 0
HasRoomLeft (Get id left) = Unit {0}
HasRoomLeft (Scan interval desc limit left) = left.size < 2 ^ 62

-- a read in bytes is one in places
abbrev pub Asks : Ask → course.Ask → Type 0
Asks (Get id left) q = q ≡ course.get_doc id left
Asks (Scan interval desc limit left) q = (p : PlaceInterval) × (q ≡ course.scan_rows p desc limit left) × Stands p interval

-- an answer in bytes tells one in places
pub record Answers (held : HeldAnswer) (a : Answer) : Type 0 where
  pub docs : held.docs.items ≡ a.docs
  pub consumed : held.consumed ≡ in_bytes a.consumed
