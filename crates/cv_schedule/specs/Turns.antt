-- Each step that events take, and what the clients of their connections show.
use Rattle.std.specs.Prelude.{◌≡◌, ℕ, zero, suc, ◌==◌, true, false, cond, List, [], ◌∷◌, Some, None}
use Rattle.fn_tree.specs.History.{History, IsLegal}
use Rattle.fn_tree.specs.SyntaxTree.{ModuleTree}
use Rattle.sync_msgs.specs.Clients.{Client, new_client, fold_message}
use Rattle.sync_msgs.specs.Numbered.{at_number}
use Rattle.sync_session.specs.Sound.{IsSound, IsTold}
use Rattle.sync_session.specs.Stepping.{Stepped}
use Rattle.cv_schedule.specs.Schedules.{Attached, Stage, Event, opens, steps, runs, Line, tells, Turn, step_of, step_turn, most_steps, after, opening}

-- something of a connection's step at a stage
abbrev pub Test : Type 1
Test = (c : ℕ) → Stage → Attached → Stepped → Type 0

abbrev pub OneStep : Test → ModuleTree → (c : ℕ) → Stage → Type 0
OneStep P m c s = elim (at_number c s.conns) [ None ↦ Unit {0} | Some a ↦ P c s a (step_of m s a) ]

-- of at most n steps of a connection, until it rests
abbrev pub RunSteps : (n : ℕ) → Test → ModuleTree → (c : ℕ) → Stage → Type 0
RunSteps zero P m c s = Unit {0}
RunSteps (suc n) P m c s = OneStep P m c s × (elim ((step_turn m c s).rests) [ true ↦ Unit {0} | false ↦ RunSteps n P m c (step_turn m c s).stage ])

abbrev pub StepsOf : Test → ModuleTree → Stage → Event → Type 0
StepsOf P m s (steps c) = OneStep P m c s
StepsOf P m s (runs c) = RunSteps most_steps P m c s
StepsOf P m s e = Unit {0}

-- of each step that events take
abbrev pub EachStep : Test → ModuleTree → Stage → List Event → Type 0
EachStep P m s [] = Unit {0}
EachStep P m s (e ∷ es) = StepsOf P m s e × EachStep P m (after m s e).stage es

-- ---- what holds of each stage

-- the history is legal, and each connection is sound over it
pub record IsSoundStage (m : ModuleTree) (s : Stage) : Type 0 where
  pub legal : IsLegal m s.history
  pub conns : (c : ℕ) (a : Attached) → at_number c s.conns ≡ Some a → IsSound s.history a.conn

-- what events come to one after another, whether they are allowed or not
abbrev pub stage_after : ModuleTree → Stage → List Event → Stage
stage_after m s [] = s
stage_after m s (e ∷ es) = stage_after m (after m s e).stage es

-- a step tells its client what is true of the last history
abbrev pub is_told : ModuleTree → (last : History) → Test
is_told m last c s a r = IsTold m last a.conn r.conn r.sent

-- the last history is legal, and over it each step tells its client the truth: each transition leaves it with its queries run afresh, and each response is the entry's
pub record TellsTruly (m : ModuleTree) (es : List Event) : Type 0 where
  pub legal : IsLegal m (stage_after m opening es).history
  pub told : EachStep (is_told m (stage_after m opening es).history) m opening es

-- ---- the clients

abbrev pub told_line : (c : ℕ) → Client → Line → Client
told_line c k (tells d message) = cond (d == c) (fold_message k message) k
told_line c k line = k

abbrev pub told_lines : (c : ℕ) → Client → List Line → Client
told_lines c k [] = k
told_lines c k (line ∷ lines) = told_lines c (told_line c k line) lines

-- a connection that is opened has a new client, which is told its lines from then on
abbrev pub told_event : (c : ℕ) → Event → Client → List Line → Client
told_event c (opens d) k lines = cond (d == c) new_client k
told_event c e k lines = told_lines c k lines

abbrev pub client_after : ModuleTree → (c : ℕ) → Stage → Client → List Event → Client
client_after m c s k [] = k
client_after m c s k (e ∷ es) = let t : Turn = after m s e in client_after m c t.stage (told_event c e k t.lines) es

-- each connection's client is the one that was told its lines
abbrev pub ClientsAreTold : ModuleTree → List Event → Type 0
ClientsAreTold m es = (c : ℕ) (a : Attached) → at_number c (stage_after m opening es).conns ≡ Some a → a.conn.client ≡ client_after m c opening new_client es
