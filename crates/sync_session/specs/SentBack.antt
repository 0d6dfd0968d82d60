-- When a try is sent back, and which steps start a run.
use Rattle.std.specs.Prelude.{◌≡◌, ◌↔◌, ℕ, ℤ, nat_lt, false, length, Option, Some, None}
use Rattle.cv_store.specs.FirstTouch.{first_touch_places}
use Rattle.cv_store.specs.Jobs.{AtMostOne}
use Rattle.cv_store.specs.Turns.{one_more}
use Rattle.cv_store.specs.Kept.{kept}
use Rattle.cv_store.specs.declared.conflict.Conflict.{Conflict}
use Rattle.fn_tree.specs.Course.{Reply}
use Rattle.fn_tree.specs.History.{History}
use Rattle.fn_tree.specs.Schemas.{schema_of}
use Rattle.fn_tree.specs.SyntaxTree.{ModuleTree}
use Rattle.sync_session.specs.Conns.{Conn, Request, Try, Work, mutates, goes_to}
use Rattle.sync_session.specs.Stepping.{Input, run_of, conn_step}
use Rattle.sync_session.specs.declared.went.Went.TheVariants.{SentBack}

-- a try that has made its reads, of a request without an entry, has this first touch
pub record IsTouched (m : ModuleTree) (h : History) (c : Conn) (touch : Conflict) : Type 0 where
  pub request : Request
  pub try : Try
  pub work : c.work ≡ mutates request (Some try)
  pub all : nat_lt try.reads (length (run_of m h try).reads) ≡ false
  pub new : kept try.call.session try.call.request h ≡ None
  pub touched : first_touch_places (schema_of m.tables) (run_of m h try).reads h try.snapshot ≡ Some touch

-- a step sends a try back exactly where a later entry touches what it read
abbrev pub SentBackExactly : Type 0
SentBackExactly = (m : ModuleTree) (seen : History) (now : ℤ) (c : Conn) (input : Input) (touch : Conflict)
    → ((conn_step m seen now c input).went ≡ SentBack touch) ↔ IsTouched m seen c touch

-- ---- runs

abbrev pub begun_runs : Option (ℕ × Reply) → (runs runs' : ℕ) → Type 0
begun_runs None runs runs' = runs' ≡ one_more runs
begun_runs (Some k) runs runs' = runs' ≡ runs

-- a begin starts a run where the request has no entry, the answer of a query at most one, and nothing else any
abbrev pub RunsIn : (seen : History) → Work → (runs runs' : ℕ) → Type 0
RunsIn seen (mutates r None) runs runs' = begun_runs (kept r.session r.request seen) runs runs'
RunsIn seen (goes_to ts) runs runs' = AtMostOne runs runs'
RunsIn seen work runs runs' = runs' ≡ runs
