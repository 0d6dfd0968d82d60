-- What holds of each connection over what was seen, and of each step.
use Rattle.std.specs.Prelude.{◌≡◌, ℕ, ℤ, ◌≤◌, false, ◌++◌, length, Option, Some, None}
use Rattle.cv_store.specs.Kept.{kept}
use Rattle.fn_tree.specs.Course.{Reply}
use Rattle.fn_tree.specs.History.{History, IsLegal}
use Rattle.fn_tree.specs.SyntaxTree.{ModuleTree}
use Rattle.sync_msgs.specs.Clients.{fold_message}
use Rattle.sync_msgs.specs.Messages.{ServerMessage, transition, responds, refuses}
use Rattle.sync_msgs.specs.Numbered.{at_number}
use Rattle.sync_session.specs.Conns.{Conn, Request, call_at, Try, Work, rests, mutates, answers, goes_to, Subscribed}
use Rattle.sync_session.specs.Stepping.{Input, Stepped, and_entry, conn_step}
use Rattle.sync_session.specs.UpToDate.{IsUpToDate}

-- the session's request has the entry at this timestamp, with this reply
abbrev pub HasEntry : History → (session : Option ℕ) → (request ts : ℕ) → Reply → Type 0
HasEntry h None request ts reply = ⊥
HasEntry h (Some session) request ts reply = kept session request h ≡ Some (ts, reply)

-- a try is the call of its request, on a snapshot of what was seen
abbrev pub IsTryOf : History → Request → Option Try → Type 0
IsTryOf h r None = Unit {0}
IsTryOf h r (Some t) = (t.call ≡ call_at t.call.now r) × (t.snapshot ≤ length h)

abbrev pub IsWorkOf : History → Conn → Work → Type 0
IsWorkOf h c rests = Unit {0}
IsWorkOf h c (mutates r t) = (c.session ≡ Some r.session) × IsTryOf h r t
IsWorkOf h c (answers r ts reply) = HasEntry h c.session r.request ts reply
IsWorkOf h c (goes_to ts) = ts ≡ c.position

-- the client stands at a timestamp up to the position, which was seen; so does each answer; the client has the query set unless that changed; and what is under way is the session's own
pub record IsSound (h : History) (c : Conn) : Type 0 where
  pub within : c.position ≤ length h
  pub shown : c.client.version.ts ≤ c.position
  pub answered : (id : ℕ) (s : Subscribed) (ts : ℕ) → at_number id c.queries ≡ Some s → s.at ≡ Some ts → ts ≤ c.position
  pub settled : c.changed ≡ false → c.client.version.query_set ≡ c.query_set
  pub work : IsWorkOf h c c.work

-- ---- a step

-- a message is true of the history behind the step: a transition goes from the client's version to one at which the results are the queries run afresh, and a response tells the entry of the session's request
abbrev pub IsTrue : ModuleTree → History → (before after : Conn) → ServerMessage → Type 0
IsTrue m h c d (transition start end shown) =
    (start ≡ c.client.version) × (end ≡ d.client.version) × (start.ts ≤ end.ts) × (end.query_set ≡ d.query_set) × IsUpToDate m h d.queries d.client
IsTrue m h c d (responds request ts reply) = HasEntry h c.session request ts reply
IsTrue m h c d (refuses why) = Unit {0}

-- the client is the one before, fold_message what was sent
abbrev pub IsTold : ModuleTree → History → (before after : Conn) → Option ServerMessage → Type 0
IsTold m h c d None = d.client ≡ c.client
IsTold m h c d (Some message) = (d.client ≡ fold_message c.client message) × IsTrue m h c d message

pub record StepIsSound (m : ModuleTree) (h : History) (c : Conn) (r : Stepped) : Type 0 where
  pub legal : IsLegal m (and_entry h r.entry)
  pub sound : IsSound (and_entry h r.entry) r.conn
  pub told : IsTold m (and_entry h r.entry) c r.conn r.sent

-- each step of a sound connection over a legal history, whatever comes, is sound
abbrev pub StepsAreSound : Type 0
StepsAreSound = (m : ModuleTree) (seen : History) (now : ℤ) (c : Conn) (input : Input) → IsLegal m seen → IsSound seen c → StepIsSound m seen c (conn_step m seen now c input)

-- and it stays sound when more is seen
abbrev pub SoundStays : Type 0
SoundStays = (h more : History) (c : Conn) → IsSound h c → IsSound (h ++ more) c
