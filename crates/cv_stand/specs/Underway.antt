-- A call under way over a store whose log is its own entries.
use Rattle.std.specs.Prelude.{◌≡◌, ℕ, ◌+◌, ◌-◌, ◌<◌, ◌≤◌, length, Option, Some, None}
use Rattle.cv_core.specs.Cores.{program_of}
use Rattle.cv_core.specs.Solos.{Solo}
use Rattle.fn_tree.specs.EntryViews.{reply_view}
use Rattle.fn_tree.specs.History.{History, docs_at, start_of}
use Rattle.fn_tree.specs.Run.{run}
use Rattle.fn_tree.specs.SyntaxTree.{ModuleTree}
use Rattle.fn_tree.specs.declared.entry.Call.{Call}
use Rattle.fn_tree.specs.declared.entry.Reply.{Reply}
use Rattle.cv_store.specs.Jobs.{Under}
use Rattle.cv_store.specs.Kept.{kept}
use Rattle.cv_store.specs.Turns.{one_more}
use Rattle.cv_stand.specs.Events.{calls}
use Rattle.cv_stand.specs.Plays.{after_call, request_of, runs_after}

-- how many reads the run of a call on the latest documents makes
abbrev pub reads_on_latest : ModuleTree → Call → History → ℕ
reads_on_latest m call h = length (run m (start_of call) (docs_at h (length h))).reads

-- the job runs this call on the latest documents, and the call's request has no entry
pub record RunsOn (m : ModuleTree) (call : Call) (h : History) (u : Under) : Type 0 where
  pub program : u.program ≡ m
  pub same_call : u.call ≡ call
  pub snapshot : u.snapshot ≡ length h
  pub seen : u.seen ≡ h
  pub new : kept call.session call.request h ≡ None
  pub within : u.reads ≤ reads_on_latest m call h

abbrev pub IsAt : ModuleTree → Call → History → Option Under → Type 0
IsAt m call h None = Unit {0}
IsAt m call h (Some u) = RunsOn m call h u

pub record InCall (m : ModuleTree) (call : Call) (s : Solo) (u : Option Under) : Type 0 where
  pub program : program_of s.core ≡ m
  pub start : s.start ≡ 0
  pub at : IsAt m call s.core.log u

-- how many steps are left at most
abbrev pub steps_left : ModuleTree → Call → History → Option Under → ℕ
steps_left m call h None = reads_on_latest m call h + 2
steps_left m call h (Some u) = reads_on_latest m call h - u.reads + 1

-- how many runs were started, by how many that were before the call
abbrev pub started : Option Under → ℕ → ℕ
started None first = first
started (Some u) first = one_more first

-- the call was played to its end: its request has this entry
pub record IsPlayed (m : ModuleTree) (call : Call) (s t : Solo) (ts : ℕ) (reply : Reply) : Type 0 where
  pub program : program_of t.core ≡ m
  pub start : t.start ≡ 0
  pub history : t.core.log ≡ after_call m s.core.log call
  pub told : kept call.session call.request t.core.log ≡ Some (ts, reply_view reply)

-- one step more, or the last one
pub record OneStepMore (m : ModuleTree) (call : Call) (s t : Solo) (u v : Option Under) : Type 0 where
  pub log : t.core.log ≡ s.core.log
  pub in_call : InCall m call t v
  pub fewer : steps_left m call t.core.log v < steps_left m call s.core.log u

abbrev pub Stepped : ModuleTree → Call → (s t : Solo) → (u v : Option Under) → Option (ℕ × Reply) → Type 0
Stepped m call s t u v None = OneStepMore m call s t u v
Stepped m call s t u v (Some d) = IsPlayed m call s t d.0 d.1 × (v ≡ None)

-- a begin on a snapshot starts one run, and no other step does
abbrev pub CountsStep : Call → History → (u v : Option Under) → (runs runs' : ℕ) → Option (ℕ × Reply) → Type 0
CountsStep call h u v runs runs' None = (first : ℕ) → runs ≡ started u first → runs' ≡ started v first
CountsStep call h u v runs runs' (Some d) = (first : ℕ) → runs ≡ started u first → runs' ≡ runs_after h (calls (request_of call)) first
