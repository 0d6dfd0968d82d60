-- What an event makes of the clock and of the history, and the lines that it writes.
use Rattle.std.specs.Prelude.{◌≡◌, ℕ, ℤ, pos, List, [], ◌∷◌, ◌++◌, if◌then◌else◌, is_some, Option}
use Rattle.std.specs.Option.{option_map_or}
use Rattle.fn_tree.specs.Course.{Reply}
use Rattle.fn_tree.specs.History.{Entry, History, IsLegal, Pair, docs_after, start_of}
use Rattle.fn_tree.specs.Run.{Run, run}
use Rattle.fn_tree.specs.SyntaxTree.{ModuleTree}
use Rattle.fn_tree.specs.declared.entry.Call.{Call}
use Rattle.cv_store.specs.Kept.{kept}
use Rattle.cv_store.specs.Turns.{one_more}
use Rattle.cv_stand.specs.EntryLines.{entry_lines, reply_line}
use Rattle.cv_stand.specs.Events.{Event, sets_clock, calls, tells_log, Request}

-- what the clock reads, and the entries so far
pub record Stage : Type 0 where
  pub clock : ℤ
  pub history : History

-- where each script begins
abbrev pub opening : Stage
opening = record { clock = pos 0; history = [] }

-- ---- calls

abbrev pub pair_in : Request → Pair
pair_in r = (r.session, r.request)

-- the first entry of a session's request: its timestamp and its reply
abbrev pub found : History → Pair → Option (ℕ × Reply)
found h pair = kept pair.0 pair.1 h

-- the call of a request at a moment
abbrev pub call_at : ℤ → Request → Call
call_at now r = record { session = r.session; request = r.request; udf = r.udf; args = r.args; now = now }

-- the entry of a call with its run
abbrev pub entry_of : Call → Run → Entry
entry_of call r = record { call = call; reply = r.reply; writes = r.writes }

-- the run of a call on the documents that the entries leave
abbrev pub next_entry : ModuleTree → History → Call → Entry
next_entry m h call = entry_of call (run m (start_of call) (docs_after h []))

-- the history after a request: it gains the run of its call at this moment, unless it holds the session's request
abbrev pub after_request : ModuleTree → Stage → Request → History
after_request m s r = if is_some (found s.history (pair_in r)) then s.history else s.history ++ next_entry m s.history (call_at s.clock r) ∷ []

-- the request that a call is of
abbrev pub request_of : Call → Request
request_of c = record { session = c.session; request = c.request; udf = c.udf; args = c.args }

-- the history after a call
abbrev pub after_call : ModuleTree → History → Call → History
after_call m h call = after_request m (record { clock = call.now; history = h }) (request_of call)

-- the line that tells the reply of a request's entry in a history
abbrev pub told : History → Request → List (List ℕ)
told h r = option_map_or (λ f. reply_line f.0 f.1 ∷ []) (found h (pair_in r)) []

-- ---- events

abbrev pub after : ModuleTree → Stage → Event → Stage
after m s (sets_clock now) = record s { clock = now }
after m s (calls r) = record s { history = after_request m s r }
after m s tells_log = s

-- the lines that an event writes: a call tells the reply of its entry, be it new or kept
abbrev pub output : ModuleTree → Stage → Event → List (List ℕ)
output m s (sets_clock now) = []
output m s (calls r) = told (after_request m s r) r
output m s tells_log = entry_lines 0 s.history

-- how many runs were started after an event: a call starts one, unless its request has an entry
abbrev pub runs_after : History → Event → ℕ → ℕ
runs_after h (sets_clock now) n = n
runs_after h (calls r) n = if is_some (found h (pair_in r)) then n else one_more n
runs_after h tells_log n = n

-- the lines that events wrote, and where they came to
pub record Played : Type 0 where
  pub last : Stage
  pub lines : List (List ℕ)

-- plays events one after another
abbrev pub play : ModuleTree → Stage → List (ℕ × Event) → Played
play m s [] = record { last = s; lines = [] }
play m s (e ∷ es) =
    let rest = play m (after m s e.1) es in
    record rest { lines = output m s e.1 ++ rest.lines }

-- ---- one log

-- what an event tells by the final history
abbrev pub told_by : (final so_far : History) → Event → List (List ℕ)
told_by final h (sets_clock now) = []
told_by final h (calls r) = told final r
told_by final h tells_log = entry_lines 0 h

-- what events tell, read off the final history: each call the reply of its one entry there
abbrev pub telling : ModuleTree → (final : History) → Stage → List (ℕ × Event) → List (List ℕ)
telling m final s [] = []
telling m final s (e ∷ es) = told_by final s.history e.1 ++ telling m final (after m s e.1) es

-- one log: a run of one thread that holds each session's request once, and each reply line is that of the request's entry in it
pub record IsOneLog (m : ModuleTree) (events : List (ℕ × Event)) : Type 0 where
  pub legal : IsLegal m (play m opening events).last.history
  pub told : (play m opening events).lines ≡ telling m (play m opening events).last.history opening events
