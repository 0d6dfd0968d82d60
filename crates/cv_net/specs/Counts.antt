-- What a link and a door over the network count.
use Rattle.std.specs.Prelude.{◌≡◌, ◌⊎◌, ℕ, List, true, None, Result, Ok, Err}
use Rattle.cv_outside.specs.Doors.{Doorway}
use Rattle.cv_outside.specs.Links.{Wire}
use Rattle.cv_outside.specs.Plan.{next}
use Rattle.cv_outside.specs.declared.link.Got.{Got}
use Rattle.cv_outside.specs.declared.link.Got.TheVariants as got
use Rattle.cv_outside.specs.declared.link.LinkFail.{LinkFail}
use Rattle.cv_outside.specs.declared.link.LinkFail.TheVariants as fail
use Rattle.cv_net.specs.declared.heard.Heard.{Heard}
use Rattle.cv_net.specs.declared.heard.Heard.TheVariants as heard

-- how often a link was quiet, closed and at fault
pub record LinkCounts : Type 0 where
  pub quiets : ℕ
  pub closings : ℕ
  pub faults : ℕ

abbrev pub no_counts : LinkCounts
no_counts = record { quiets = 0; closings = 0; faults = 0 }

abbrev pub with_quiet : LinkCounts → LinkCounts
with_quiet c = record c { quiets = next c.quiets }

abbrev pub with_closing : LinkCounts → LinkCounts
with_closing c = record c { closings = next c.closings }

abbrev pub with_fault : LinkCounts → LinkCounts
with_fault c = record c { faults = next c.faults }

-- it tells no texts, and may fail
abbrev pub counts_wire : LinkCounts → Wire
counts_wire c =
    record { coming = None; trace = None; quiets = c.quiets; closings = c.closings; faults = c.faults; may_fail = true }

-- what was heard is answered and counted; a text may meet want of memory
abbrev pub AnswersHeard : Heard → LinkCounts → LinkCounts → Result Got LinkFail → Type 0
AnswersHeard (heard.Text text) c d answer = (d ≡ c) × ((answer ≡ Ok (got.Text text)) ⊎ (answer ≡ Err fail.Memory))
AnswersHeard heard.Quiet c d answer = (d ≡ with_quiet c) × (answer ≡ Ok got.Quiet)
AnswersHeard heard.Closed c d answer = (d ≡ with_closing c) × (answer ≡ Ok got.Closed)
AnswersHeard heard.Fault c d answer = (d ≡ with_fault c) × (answer ≡ Err fail.Failed)
AnswersHeard heard.Memory c d answer = (d ≡ c) × (answer ≡ Err fail.Memory)

-- each answer raises its own count, and no other
abbrev pub AnswersRecv : LinkCounts → LinkCounts → Result Got LinkFail → Type 0
AnswersRecv c d (Ok (got.Text text)) = d ≡ c
AnswersRecv c d (Ok got.Quiet) = d ≡ with_quiet c
AnswersRecv c d (Ok got.Closed) = d ≡ with_closing c
AnswersRecv c d (Err fail.Failed) = d ≡ with_fault c
AnswersRecv c d (Err fail.Memory) = d ≡ c

abbrev pub AnswersSend : {T : Type 0} → LinkCounts → LinkCounts → Result T LinkFail → Type 0
AnswersSend c d (Ok done) = d ≡ c
AnswersSend c d (Err fail.Failed) = d ≡ with_fault c
AnswersSend c d (Err fail.Memory) = d ≡ c

-- how many links a door gave and got back, and how often it was at fault
pub record DoorCounts : Type 0 where
  pub given : ℕ
  pub back : ℕ
  pub faults : ℕ

abbrev pub no_links : DoorCounts
no_links = record { given = 0; back = 0; faults = 0 }

-- it doesn't tell which links came back
abbrev pub counts_way : DoorCounts → Doorway LinkCounts
counts_way d = record { given = d.given; back = d.back; returned = None; faults = d.faults }

abbrev pub with_door_fault : DoorCounts → DoorCounts
with_door_fault d = record d { faults = next d.faults }

-- nothing changes, but that a fault is counted where one is answered
abbrev pub AnswersPort : {T : Type 0} → DoorCounts → DoorCounts → Result T LinkFail → Type 0
AnswersPort d e (Ok port) = e ≡ d
AnswersPort d e (Err fail.Failed) = e ≡ with_door_fault d
AnswersPort d e (Err fail.Memory) = ⊥
