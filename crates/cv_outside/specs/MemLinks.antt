-- A link in memory.
use Rattle.std.specs.Prelude.{◌≡◌, ℕ, Bool, true, false, List, [], ◌∷◌, ◌++◌, Some, Result, Ok, Err}
use Rattle.cv_outside.specs.Links.{Wire}
use Rattle.cv_outside.specs.Plan.{Calls, next, no_calls}
use Rattle.cv_outside.specs.Traces.{Said, taken, sent}
use Rattle.cv_outside.specs.declared.link.Got.{Got}
use Rattle.cv_outside.specs.declared.link.Got.TheVariants.{Text, Quiet, Closed}
use Rattle.cv_outside.specs.declared.link.LinkFail.{LinkFail}
use Rattle.cv_outside.specs.declared.link.LinkFail.TheVariants.{Failed, Memory}

-- the texts to come, whether it closes behind them, what passed, and the counts
pub record LinkState : Type 0 where
  pub texts : List (List ℕ)
  pub closing : Bool
  pub trace : List Said
  pub quiets : ℕ
  pub closings : ℕ
  pub calls : Calls

-- no text is to come, and no call was made yet
abbrev pub empty_link : List ℕ → LinkState
empty_link fails =
    record { texts = []; closing = false; trace = []; quiets = 0; closings = 0; calls = no_calls fails }

abbrev pub is_some_listed : List ℕ → Bool
is_some_listed [] = false
is_some_listed (call ∷ calls) = true

-- it may fail where some call is to fail
abbrev pub link_wire : LinkState → Wire
link_wire l = record {
  coming = Some (record { texts = l.texts; closing = l.closing });
  trace = Some l.trace;
  quiets = l.quiets;
  closings = l.closings;
  faults = l.calls.failed;
  may_fail = is_some_listed l.calls.fails;
}

-- a call was made
abbrev pub after_call : LinkState → LinkState
after_call l = record l { calls = record l.calls { made = next l.calls.made } }

-- a call was made, which failed
abbrev pub after_fault : LinkState → LinkState
after_fault l = record l { calls = record l.calls { made = next l.calls.made; failed = next l.calls.failed } }

-- the first text to come leaves, and stands in the trace
abbrev pub TakesText : LinkState → LinkState → List ℕ → Type 0
TakesText l k text = (l.texts ≡ text ∷ k.texts) × (k ≡ record l { texts = k.texts; trace = l.trace ++ taken text ∷ [] })

abbrev pub AnswersRecv : LinkState → LinkState → Result Got LinkFail → Type 0
AnswersRecv l k (Ok (Text text)) = TakesText (after_call l) k text
AnswersRecv l k (Ok Quiet) = (l.texts ≡ []) × (l.closing ≡ false) × (k ≡ record (after_call l) { quiets = next l.quiets })
AnswersRecv l k (Ok Closed) = (l.texts ≡ []) × (l.closing ≡ true) × (k ≡ record (after_call l) { closings = next l.closings })
AnswersRecv l k (Err Failed) = k ≡ after_fault l
AnswersRecv l k (Err Memory) = k ≡ after_call l

abbrev pub AnswersSend : LinkState → LinkState → List ℕ → Result (Unit {0}) LinkFail → Type 0
AnswersSend l k text (Ok done) = k ≡ record (after_call l) { trace = l.trace ++ sent text ∷ [] }
AnswersSend l k text (Err Failed) = k ≡ after_fault l
AnswersSend l k text (Err Memory) = k ≡ after_call l
