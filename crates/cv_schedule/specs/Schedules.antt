-- Connections over one history, whose steps are taken one after another.
use Rattle.std.specs.Prelude.{ℕ, zero, suc, ◌+◌, ◌-◌, ◌^◌, ℤ, pos, Bool, true, false, not, cond, is_some, is_none, List, [], ◌∷◌, ◌++◌, length, drop, slice_get, Option, Some, None, codes}
use Rattle.std.specs.Option.{option_map_or}
use Rattle.cv_keys.specs.Documents.{indexes_of}
use Rattle.cv_keys.specs.declared.schema.Schema.{Schema}
use Rattle.cv_store.specs.Kept.{kept}
use Rattle.fn_tree.specs.Course.{Reply}
use Rattle.fn_tree.specs.History.{Entry, History, docs_at, start_of}
use Rattle.fn_tree.specs.Run.{run}
use Rattle.fn_tree.specs.Schemas.{schema_of}
use Rattle.fn_tree.specs.SyntaxTree.{ModuleTree}
use Rattle.sync_msgs.specs.Messages.{ServerMessage}
use Rattle.sync_msgs.specs.Numbered.{Numbered, at_number, with_number, without_number}
use Rattle.sync_session.specs.Conns.{Conn, new_conn, Heard, Request, call_at}
use Rattle.sync_session.specs.Stepping.{Input, got, quiet, closed, Stepped, and_entry, entry_of, listens, conn_step}
use Rattle.sync_session.specs.declared.went.Went.{Went}
use Rattle.sync_session.specs.declared.went.Went.TheVariants.{Idle, SentBack, Ended}

-- a connection with its texts to come, and whether nothing comes behind them
pub record Attached : Type 0 where
  pub conn : Conn
  pub texts : List Heard
  pub closing : Bool

-- what the clock reads, the entries so far, and the connections
pub record Stage : Type 0 where
  pub clock : ℤ
  pub history : History
  pub conns : Numbered Attached

-- where each script begins
abbrev pub opening : Stage
opening = record { clock = pos 0; history = []; conns = [] }

abbrev pub new_attached : Attached
new_attached = record { conn = new_conn; texts = []; closing = false }

pub data Event : Type 0 where
  -- the clock reads this moment from then on
  sets_clock : ℤ → Event
  -- a mutation is run whole, or the reply that was kept is told
  calls : Request → Event
  -- a connection is there
  opens : (c : ℕ) → Event
  -- a text is to come
  receives : (c : ℕ) → Heard → Event
  -- one step, and steps until one is idle or the connection is gone
  steps : (c : ℕ) → Event
  runs : (c : ℕ) → Event
  -- nothing comes behind the texts to come
  closes : (c : ℕ) → Event
  -- the connection is gone with what is under way
  drops : (c : ℕ) → Event
  -- all entries are told
  tells_log : Event

pub data Line : Type 0 where
  replies : (ts : ℕ) → Reply → Line
  tells : (c : ℕ) → ServerMessage → Line
  -- a try was sent back for the entry at this timestamp, in the index of this name
  retries : (c ts : ℕ) → (index : List ℕ) → Line
  lists : (ts : ℕ) → Entry → Line

-- what events come to, and the lines that they write
pub record Turn : Type 0 where
  pub stage : Stage
  pub lines : List Line
  -- whether the connection is idle or gone
  pub rests : Bool

-- ---- one step

abbrev pub input_of : Attached → Input
input_of a = elim (a.texts) [ [] ↦ cond a.closing closed quiet | text ∷ texts ↦ got text ]

abbrev pub texts_left : Attached → List Heard
texts_left a = cond (listens a.conn) (drop 1 a.texts) a.texts

-- a connection that has ended is gone
abbrev pub conns_after : Went → (c : ℕ) → Attached → Numbered Attached → Numbered Attached
conns_after (Ended end) c a conns = without_number c conns
conns_after went c a conns = with_number c a conns

-- the names of a table and of its index
abbrev pub index_name : Schema → (table index : ℕ) → List ℕ
index_name schema table index =
    option_map_or (λ t. t.name) (slice_get schema.tables table) [] ++ codes "." ++ option_map_or (λ x. x.name) (slice_get (indexes_of schema table) index) []

abbrev pub sent_lines : (c : ℕ) → Option ServerMessage → List Line
sent_lines c None = []
sent_lines c (Some message) = tells c message ∷ []

abbrev pub went_lines : Schema → (c : ℕ) → Went → List Line
went_lines schema c (SentBack touch) = retries c touch.ts (index_name schema touch.table touch.index) ∷ []
went_lines schema c went = []

abbrev pub is_rest : Went → Bool
is_rest Idle = true
is_rest (Ended end) = true
is_rest went = false

-- what a step of a connection makes of the stage
abbrev pub turn_by : ModuleTree → (c : ℕ) → Stage → Attached → Stepped → Turn
turn_by m c s a r = record {
  stage = record s {
    history = and_entry s.history r.entry;
    conns = conns_after r.went c (record a { conn = r.conn; texts = texts_left a }) s.conns;
  };
  lines = sent_lines c r.sent ++ went_lines (schema_of m.tables) c r.went;
  rests = is_rest r.went;
}

-- each step sees the whole history
abbrev pub step_of : ModuleTree → Stage → Attached → Stepped
step_of m s a = conn_step m s.history s.clock a.conn (input_of a)

abbrev pub nothing : Stage → Turn
nothing s = record { stage = s; lines = []; rests = true }

abbrev pub step_turn : ModuleTree → (c : ℕ) → Stage → Turn
step_turn m c s = elim (at_number c s.conns) [ None ↦ nothing s | Some a ↦ turn_by m c s a (step_of m s a) ]

-- ---- steps until the connection rests

-- no run of a connection has more steps than a machine can count
abbrev pub most_steps : ℕ
most_steps = 2 ^ 64 - 1

-- at most n steps
abbrev pub run_turns : (n : ℕ) → ModuleTree → (c : ℕ) → Stage → Turn
run_turns zero m c s = record { stage = s; lines = []; rests = false }
run_turns (suc n) m c s =
    let t : Turn = step_turn m c s in
    elim (t.rests) [ true ↦ t | false ↦ let u : Turn = run_turns n m c t.stage in record u { lines = t.lines ++ u.lines } ]

-- ---- events

abbrev pub made_by : ModuleTree → Stage → Request → Entry
made_by m s r = entry_of (call_at s.clock r) (run m (start_of (call_at s.clock r)) (docs_at s.history (length s.history)))

-- a call of a request that has no entry appends its run, and each call tells the entry's reply
abbrev pub call_turn : ModuleTree → Stage → Request → Turn
call_turn m s r = elim (kept r.session r.request s.history) [
  | Some k ↦ record { stage = s; lines = replies k.0 k.1 ∷ []; rests = true }
  | None ↦ let e : Entry = made_by m s r in record { stage = record s { history = s.history ++ e ∷ [] }; lines = replies (length s.history + 1) e.reply ∷ []; rests = true }
]

-- the entries behind a timestamp, each with its own
abbrev pub entry_lines : (ts : ℕ) → History → List Line
entry_lines ts [] = []
entry_lines ts (e ∷ h) = lists (ts + 1) e ∷ entry_lines (ts + 1) h

abbrev pub change_conn : (c : ℕ) → (Attached → Attached) → Stage → Stage
change_conn c f s = elim (at_number c s.conns) [ None ↦ s | Some a ↦ record s { conns = with_number c (f a) s.conns } ]

abbrev pub after : ModuleTree → Stage → Event → Turn
after m s (sets_clock now) = nothing (record s { clock = now })
after m s (calls r) = call_turn m s r
after m s (opens c) = nothing (record s { conns = with_number c new_attached s.conns })
after m s (receives c text) = nothing (change_conn c (λ a. record a { texts = a.texts ++ text ∷ [] }) s)
after m s (steps c) = step_turn m c s
after m s (runs c) = run_turns most_steps m c s
after m s (closes c) = nothing (change_conn c (λ a. record a { closing = true }) s)
after m s (drops c) = nothing (record s { conns = without_number c s.conns })
after m s tells_log = record { stage = s; lines = entry_lines 0 s.history; rests = true }

abbrev pub is_open : Option Attached → Bool
is_open None = false
is_open (Some a) = not a.closing

-- whether an event may come at a stage
abbrev pub is_allowed : Stage → Event → Bool
is_allowed s (opens c) = is_none (at_number c s.conns)
is_allowed s (receives c text) = is_open (at_number c s.conns)
is_allowed s (closes c) = is_open (at_number c s.conns)
is_allowed s (steps c) = is_some (at_number c s.conns)
is_allowed s (runs c) = is_some (at_number c s.conns)
is_allowed s (drops c) = is_some (at_number c s.conns)
is_allowed s e = true

-- where events come to, the lines that they write, and the number of the first that isn't allowed, which stops them
pub record Played : Type 0 where
  pub last : Stage
  pub lines : List Line
  pub bad : Option ℕ

abbrev pub play : ModuleTree → Stage → List (ℕ × Event) → Played
play m s [] = record { last = s; lines = []; bad = None }
play m s (e ∷ es) = elim (is_allowed s e.1) [
  | false ↦ record { last = s; lines = []; bad = Some e.0 }
  | true ↦ let t : Turn = after m s e.1 in let rest : Played = play m t.stage es in record rest { lines = t.lines ++ rest.lines }
]
