-- One step of a connection.
use Rattle.std.specs.Prelude.{ℕ, ◌+◌, ℤ, Bool, true, false, ◌||◌, nat_lt, List, [], ◌∷◌, ◌++◌, length, Option, Some, None, Result, Ok, Err}
use Rattle.cv_store.specs.FirstTouch.{first_touch_places}
use Rattle.cv_store.specs.Kept.{kept}
use Rattle.cv_store.specs.Tails.{tail_from}
use Rattle.cv_store.specs.declared.tail.Tail.{Tail}
use Rattle.fn_tree.specs.Course.{Reply, gives, failed}
use Rattle.fn_tree.specs.History.{Entry, History, start_of, docs_at}
use Rattle.fn_tree.specs.Run.{Run, run}
use Rattle.fn_tree.specs.Schemas.{schema_of}
use Rattle.fn_tree.specs.SyntaxTree.{ModuleTree}
use Rattle.fn_tree.specs.declared.entry.Call.{Call}
use Rattle.sync_msgs.specs.Clients.{fold_message}
use Rattle.sync_msgs.specs.Messages.{Shown, ServerMessage, transition, responds, refuses}
use Rattle.sync_msgs.specs.Numbered.{Numbered, each_number}
use Rattle.sync_msgs.specs.declared.cause.Cause.{Cause}
use Rattle.sync_session.specs.Applying.{after_message}
use Rattle.sync_session.specs.Conns.{Conn, Request, call_at, Try, Work, rests, mutates, answers, goes_to, Subscribed, Heard, is_due}
use Rattle.sync_session.specs.Showing.{is_stale, any_stale_of, shown_of}
use Rattle.sync_session.specs.declared.went.End.TheVariants.{Closed, Refused}
use Rattle.sync_session.specs.declared.went.Went.{Went}
use Rattle.sync_session.specs.declared.went.Went.TheVariants.{Moved, Idle, SentBack, Ended}

-- what the link gives: a text, nothing yet, or nothing any more
pub data Input : Type 0 where
  got : Heard → Input
  quiet : Input
  closed : Input

-- what a step makes of a connection, the message that it sends and the entry that it appends, if any, and what it did
pub record Stepped : Type 0 where
  pub conn : Conn
  pub sent : Option ServerMessage
  pub entry : Option Entry
  pub went : Went

-- a history with the entry that a step appended
abbrev pub and_entry : History → Option Entry → History
and_entry h None = h
and_entry h (Some e) = h ++ e ∷ []

abbrev pub goes : Went → Conn → Stepped
goes went c = record { conn = c; sent = None; entry = None; went = went }

abbrev pub sends : ServerMessage → Went → Conn → Stepped
sends message went c = record { conn = c; sent = Some message; entry = None; went = went }

-- ---- a mutation

-- the timestamp is owed where the reply is a value
abbrev pub owing : (ts : ℕ) → Reply → Conn → Conn
owing ts (gives v) c = record c { owed = ts }
owing ts (failed why) c = c

-- the response with the entry at a timestamp
abbrev pub response : (request ts : ℕ) → Reply → Conn → Stepped
response request ts reply c = sends (responds request ts reply) Moved (owing ts reply (record c { work = rests }))

-- the run of a try
abbrev pub run_of : ModuleTree → History → Try → Run
run_of m h t = run m (start_of t.call) (docs_at h t.snapshot)

abbrev pub entry_of : Call → Run → Entry
entry_of call r = record { call = call; reply = r.reply; writes = r.writes }

-- a begin: the kept reply of the session's request, or a snapshot of all that was seen
abbrev pub begin_step : History → (now : ℤ) → Request → Conn → Stepped
begin_step h now r c = elim (kept r.session r.request h) [
  | Some k ↦ response r.request k.0 k.1 c
  | None ↦ goes Moved (record c { work = mutates r (Some (record { call = call_at now r; snapshot = length h; reads = 0 })) })
]

-- a commit: the kept reply of the session's request, or the first touch of what was read, or a new entry
abbrev pub commit_step : ModuleTree → History → Request → Try → Conn → Stepped
commit_step m h r t c = elim (kept t.call.session t.call.request h) [
  | Some k ↦ response r.request k.0 k.1 c
  | None ↦ elim (first_touch_places (schema_of m.tables) (run_of m h t).reads h t.snapshot) [
    | Some touch ↦ goes (SentBack touch) (record c { work = mutates r None })
    | None ↦ let e : Entry = entry_of t.call (run_of m h t) in record (response r.request (length h + 1) e.reply c) { entry = Some e }
  ]
]

-- a read, as long as the run makes more, else the commit
abbrev pub try_step : ModuleTree → History → Request → Try → Conn → Stepped
try_step m h r t c = elim (nat_lt t.reads (length (run_of m h t).reads)) [
  | true ↦ goes Moved (record c { work = mutates r (Some (record t { reads = t.reads + 1 })) })
  | false ↦ commit_step m h r t c
]

abbrev pub mutation_step : ModuleTree → History → (now : ℤ) → Request → Option Try → Conn → Stepped
mutation_step m h now r None c = begin_step h now r c
mutation_step m h now r (Some t) c = try_step m h r t c

-- ---- a transition

abbrev pub settled : Subscribed → Subscribed
settled s = record s { new = false }

-- it is sent where it is due or shows something, and else the client stays
abbrev pub transition_end : (ts : ℕ) → List Shown → Conn → Stepped
transition_end ts shown c =
    let d : Conn = record c { queries = each_number settled c.queries; changed = false; work = rests } in
    let message : ServerMessage = transition c.client.version (record { query_set = c.query_set; identity = 0; ts = ts }) shown in
    elim (is_due c || nat_lt 0 (length shown)) [
      | true ↦ sends message Moved (record d { client = fold_message c.client message })
      | false ↦ goes Moved d
    ]

abbrev pub ends_at : ModuleTree → History → (ts : ℕ) → Conn → Stepped
ends_at m h ts c = transition_end ts (shown_of m h c.queries c.client.results) c

-- the queries after the first stale one was answered
abbrev pub with_answer : ModuleTree → History → (position ts : ℕ) → Numbered Subscribed → Numbered Subscribed
with_answer m h position ts [] = []
with_answer m h position ts (p ∷ qs) = elim (is_stale m h position p.1) [ true ↦ (p.0, record p.1 { at = Some ts }) ∷ qs | false ↦ p ∷ with_answer m h position ts qs ]

abbrev pub any_stale : ModuleTree → History → Conn → Bool
any_stale m h c = any_stale_of m h c.position c.queries

-- the stale query with the least id is answered; behind the last one the transition ends
abbrev pub answer_step : ModuleTree → History → (ts : ℕ) → Conn → Stepped
answer_step m h ts c =
    let d : Conn = record c { queries = with_answer m h c.position ts c.queries } in
    elim (any_stale m h d) [ true ↦ goes Moved d | false ↦ ends_at m h ts d ]

-- what came since the position is looked at; at the end of it a transition begins where a query is stale, and ends at once where one is due
abbrev pub tail_step : ModuleTree → History → Conn → Stepped
tail_step m h c =
    let t : Tail = tail_from (schema_of m.tables) h c.position in
    let d : Conn = record c { position = t.to } in
    elim (nat_lt t.to t.end) [
      | true ↦ goes Moved d
      | false ↦ elim (any_stale m h d) [
        | true ↦ goes Moved (record d { work = goes_to t.end })
        | false ↦ elim (is_due d) [ true ↦ ends_at m h t.end d | false ↦ goes Idle d ]
      ]
    ]

-- ---- a text

abbrev pub refusal : Cause → Conn → Stepped
refusal why c = sends (refuses why) (Ended (Refused why)) c

abbrev pub applies : Result Conn Cause → Conn → Stepped
applies (Ok d) c = goes Moved d
applies (Err why) c = refusal why c

abbrev pub text_step : History → Heard → Conn → Stepped
text_step h (Err why) c = refusal why c
text_step h (Ok message) c = applies (after_message (length h) message c) c

abbrev pub input_step : ModuleTree → History → Input → Conn → Stepped
input_step m h (got text) c = text_step h text c
input_step m h quiet c = tail_step m h c
input_step m h closed c = goes (Ended Closed) c

-- ---- a step

-- whether a step asks the link
abbrev pub is_open : Work → Bool
is_open rests = true
is_open work = false

abbrev pub listens : Conn → Bool
listens c = elim (is_open c.work) [ false ↦ false | true ↦ elim (is_due c) [ true ↦ false | false ↦ elim c.kept [ Some text ↦ false | None ↦ true ] ] ]

-- with nothing under way: a tail step where a transition is due, else the kept text or what the link gives
abbrev pub rest_step : ModuleTree → History → Conn → Input → Stepped
rest_step m h c input = elim (is_due c) [
  | true ↦ tail_step m h c
  | false ↦ elim c.kept [ Some text ↦ text_step h text (record c { kept = None }) | None ↦ input_step m h input c ]
]

-- what is under way goes on by one step, over what was seen at its one call of the store, and at this moment of the clock
abbrev pub work_step : ModuleTree → (seen : History) → (now : ℤ) → Conn → Input → Work → Stepped
work_step m h now c input rests = rest_step m h c input
work_step m h now c input (mutates r t) = mutation_step m h now r t c
work_step m h now c input (answers r ts reply) = response r.request ts reply c
work_step m h now c input (goes_to ts) = answer_step m h ts c

abbrev pub conn_step : ModuleTree → (seen : History) → (now : ℤ) → Conn → Input → Stepped
conn_step m h now c input = work_step m h now c input c.work
