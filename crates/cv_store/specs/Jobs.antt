-- What a job means, and what one step of it does.
use Rattle.std.specs.Prelude.{◌≡◌, ◌⊎◌, ℕ, ◌+◌, true, false, nat_lt, List, length, Option, Some, None, MatchBool}
use Rattle.cv_keys.specs.declared.interval.Interval.{Interval}
use Rattle.fn_tree.specs.History.{History, start_of, docs_at}
use Rattle.fn_tree.specs.Run.{run}
use Rattle.fn_tree.specs.SyntaxTree.{ModuleTree}
use Rattle.fn_tree.specs.declared.entry.Call.{Call}
use Rattle.fn_tree.specs.declared.entry.Reply.{Reply}
use Rattle.fn_tree.specs.declared.stop.Query.{Query}
use Rattle.cv_store.specs.Cache.{Cache, cached_at, used, after_keep}
use Rattle.cv_store.specs.Stores.{Standing, schema_in, GoesOn, Reads, IsRunOf, Begins, Commits, cached}
use Rattle.cv_store.specs.Turns.{one_more, after_begin, after_read, after_commit, AtMostOneTurn}
use Rattle.cv_store.specs.declared.job.JobWent.{JobWent}
use Rattle.cv_store.specs.declared.job.JobWent.TheVariants.{Moved, SentBack, Done}
use Rattle.cv_store.specs.declared.proposal.Begun.{Begun}
use Rattle.cv_store.specs.declared.proposal.Begun.TheVariants as begun
use Rattle.cv_store.specs.declared.proposal.Ended.{Ended}
use Rattle.cv_store.specs.declared.proposal.Ended.TheVariants as ended
use Rattle.cv_store.specs.declared.proposal.Proposal.{Proposal}
use Rattle.cv_store.specs.declared.turns.Turns.{Turns}

-- what a job means that isn't at a begin: the program and the call given there, the snapshot, the number of reads made, and what the last step's store had then seen
pub record Under : Type 0 where
  pub program : ModuleTree
  pub call : Call
  pub snapshot : ℕ
  pub reads : ℕ
  pub seen : History

-- a job goes on over a store of its begin's program that has seen what its last step's store had, with the call of its begin
abbrev pub GoesOnOver : Option Under → Standing → Call → Type 0
GoesOnOver None s call = Unit {0}
GoesOnOver (Some u) s call = (s.program ≡ u.program) × GoesOn u.seen s.seen × (call ≡ u.call)

-- how many reads the run of the job's call makes
abbrev pub reads_of : Standing → Under → ℕ
reads_of s u = length (run s.program (start_of u.call) (docs_at s.seen u.snapshot)).reads

-- what a step says of how its call began
abbrev pub begun_as : Begun → JobWent
begun_as (begun.Fresh ts) = Moved
begun_as (begun.Known ts reply) = Done ts reply

abbrev pub under_of : Standing → Call → Begun → Option Under
under_of t call (begun.Fresh ts) = Some (record { program = t.program; call = call; snapshot = ts; reads = 0; seen = t.seen })
under_of t call (begun.Known ts reply) = None

abbrev pub runs_begun : Begun → ℕ → ℕ
runs_begun (begun.Fresh ts) n = one_more n
runs_begun (begun.Known ts reply) n = n

-- the step was a begin
pub record StepsBegin (s t : Standing) (call : Call) (after : Option Under) (runs runs' : ℕ) (went : JobWent) : Type 0 where
  pub begun : Begun
  pub store : Reads s t
  pub turns : t.turns ≡ after_begin s.turns
  pub begins : Begins t call.session call.request begun
  pub under : after ≡ under_of t call begun
  pub counted : runs' ≡ runs_begun begun runs
  pub told : went ≡ begun_as begun

-- the step was a read
pub record StepsRead (s t : Standing) (u : Under) (after : Option Under) (runs runs' : ℕ) (went : JobWent) : Type 0 where
  pub store : Reads s t
  pub turns : t.turns ≡ after_read s.turns
  pub under : after ≡ Some (record u { reads = u.reads + 1; seen = t.seen })
  pub counted : runs' ≡ runs
  pub told : went ≡ Moved

-- what a step says of how its proposal ended
abbrev pub ended_as : Proposal → Ended → JobWent
ended_as p (ended.Committed ts) = Done ts p.reply
ended_as p (ended.Known ts reply) = Done ts reply
ended_as p (ended.SentBack c) = SentBack c

-- the step was the commit of the run of the job's call at its snapshot
pub record StepsCommit (s t : Standing) (u : Under) (after : Option Under) (runs runs' : ℕ) (went : JobWent) : Type 0 where
  pub proposal : Proposal
  pub ended : Ended
  pub is_run : IsRunOf s proposal
  pub call : proposal.call ≡ u.call
  pub snapshot : proposal.snapshot ≡ u.snapshot
  pub store : Commits s t proposal ended
  pub turns : t.turns ≡ after_commit s.turns
  pub under : after ≡ None
  pub counted : runs' ≡ runs
  pub told : went ≡ ended_as proposal ended

-- a step makes one call of the store: a begin, a read as long as the run has made fewer than it makes, else the commit
abbrev pub Steps : (s t : Standing) → Call → (before after : Option Under) → (runs runs' : ℕ) → JobWent → Type 0
Steps s t call None after runs runs' went = StepsBegin s t call after runs runs' went
Steps s t call (Some u) after runs runs' went =
    MatchBool (nat_lt u.reads (reads_of s u)) (StepsRead s t u after runs runs' went) (StepsCommit s t u after runs runs' went)

-- what the step that is due counts
abbrev pub after_due : Standing → Option Under → Turns → Turns
after_due s None turns = after_begin turns
after_due s (Some u) turns = elim (nat_lt u.reads (reads_of s u)) [ true ↦ after_read turns | false ↦ after_commit turns ]

-- at most the step that was due
abbrev pub AtMostDue : (s t : Standing) → Option Under → Type 0
AtMostDue s t before = AtMostOneTurn (after_due s before) s.turns t.turns

-- at most one run was counted
abbrev pub AtMostOne : (runs runs' : ℕ) → Type 0
AtMostOne runs runs' = (runs' ≡ runs) ⊎ (runs' ≡ one_more runs)

-- want of memory in a step: the next one is a begin, and only a begin may have started a run
abbrev pub RunsUnder : Option Under → (runs runs' : ℕ) → Type 0
RunsUnder None runs runs' = AtMostOne runs runs'
RunsUnder (Some u) runs runs' = runs' ≡ runs

-- where the cache is told, a query is run just where the cache has no answer of it, and its answer is then kept
abbrev pub AnswersIn : (s t : Standing) → Option Cache → Query → (ts runs runs' : ℕ) → Reply → List Interval → Type 0
AnswersIn s t None q ts runs runs' reply reads = AtMostOne runs runs' × (t.cache ≡ None)
AnswersIn s t (Some es) q ts runs runs' reply reads = elim (cached_at q ts es) [
  | None ↦ (runs' ≡ one_more runs) × (t.cache ≡ Some (after_keep (schema_in s) t.seen (cached q ts reply reads) es))
  | Some e ↦ (runs' ≡ runs) × (t.cache ≡ Some (used e es))
]
