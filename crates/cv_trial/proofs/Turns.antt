-- Jobs that are stepped by turns over one store.
use Rattle.std.proofs.Common.{◌≡◌, ℕ, Bool, true, false, [], ◌++◌, Option, Some, None, Result, Ok, Err, IfOk, refl, sym, ap, ◌∙◌, subst, append_assoc, append-nil}
use Rattle.std.specs.Prelude.{nat_lt, MatchBool, OnErr}
use Rattle.cv_values.specs.declared.memory.Memory.{Memory}
use Rattle.fn_tree.specs.History.{History}
use Rattle.fn_tree.specs.declared.entry.Call.{Call}
use Rattle.cv_store.specs.Jobs.{Under, GoesOnOver, Steps, StepsRead, StepsCommit, reads_of, under_of}
use Rattle.cv_store.specs.Stores.{Standing, GoesOn, Extends, Reads, Commits}
use Rattle.cv_store.specs.declared.job.JobWent.{JobWent}
use Rattle.cv_store.specs.declared.proposal.Begun.{Begun}
use Rattle.cv_store.specs.declared.proposal.Begun.TheVariants as begun
use Rattle.cv_store.specs.declared.proposal.Ended.{Ended}
use Rattle.cv_store.specs.declared.proposal.Ended.TheVariants as ended
use Rattle.cv_store.specs.declared.proposal.Proposal.{Proposal}

-- a store goes on over the same program
pub record Later (s t : Standing) : Type 0 where
  pub program : t.program ≡ s.program
  pub seen : GoesOn s.seen t.seen

pub extended : (s t : Standing) (own : History) → Extends s t own → Later s t
extended s t own e = record { program = e.program; seen = e.seen }

pub read_later : (s t : Standing) → Reads s t → Later s t
read_later s t r = extended s t [] r.extends

commit_later : (s t : Standing) (p : Proposal) (e : Ended) → Commits s t p e → Later s t
commit_later s t p (ended.Committed ts) c = extended s t _ c.1.extends
commit_later s t p (ended.Known ts reply) c = read_later s t c.reads
commit_later s t p (ended.SentBack touch) c = read_later s t c.0.reads

pub step_later : (s t : Standing) (call : Call) (u v : Option Under) (runs runs' : ℕ) (went : JobWent) → Steps s t call u v runs runs' went → Later s t
step_later s t call None v runs runs' went b = read_later s t b.store
step_later s t call (Some u) v runs runs' went x = go (nat_lt u.reads (reads_of s u)) x
  where
    go : (d : Bool) → MatchBool d (StepsRead s t u v runs runs' went) (StepsCommit s t u v runs runs' went) → Later s t
    go true r = read_later s t r.store
    go false c = commit_later s t c.proposal c.ended c.store

-- the job that was stepped goes on over the store behind its step
begin_over : (t : Standing) (call : Call) (b : Begun) → GoesOnOver (under_of t call b) t call
begin_over t call (begun.Fresh ts) = (refl, ([], sym (append-nil t.seen)), refl)
begin_over t call (begun.Known ts reply) = tt

pub own_over : (s t : Standing) (call : Call) (u v : Option Under) (runs runs' : ℕ) (went : JobWent) → GoesOnOver u s call → Steps s t call u v runs runs' went → GoesOnOver v t call
own_over s t call None v runs runs' went over b = subst (λ (w : Option Under). GoesOnOver w t call) (sym b.under) (begin_over t call b.begun)
own_over s t call (Some u) v runs runs' went over x = go (nat_lt u.reads (reads_of s u)) x
  where
    go : (d : Bool) → MatchBool d (StepsRead s t u v runs runs' went) (StepsCommit s t u v runs runs' went) → GoesOnOver v t call
    go true r = subst (λ (w : Option Under). GoesOnOver w t call) (sym r.under) (r.store.extends.program ∙ over.0, ([], sym (append-nil t.seen)), over.2)
    go false c = subst (λ (w : Option Under). GoesOnOver w t call) (sym c.under) tt

-- any other job goes on over it too
pub other_over : (s t : Standing) (call : Call) (u : Option Under) → Later s t → GoesOnOver u s call → GoesOnOver u t call
other_over s t call None later over = tt
other_over s t call (Some u) later over =
    (later.program ∙ over.0, (over.1.0 ++ later.seen.0, later.seen.1 ∙ ap (λ (h : History). h ++ later.seen.0) over.1.1 ∙ append_assoc u.seen over.1.0 later.seen.0), over.2)

-- behind a step, whether there was memory or not
pub after_step : (r : Result JobWent Memory) (s t : Standing) (call : Call) (u v : Option Under) (runs runs' : ℕ) → IfOk r (λ went. Steps s t call u v runs runs' went) → OnErr r (Reads s t) → OnErr r (v ≡ None)
    → GoesOnOver u s call → Later s t × GoesOnOver v t call
after_step (Ok went) s t call u v runs runs' ok store under over = (step_later s t call u v runs runs' went ok, own_over s t call u v runs runs' went over ok)
after_step (Err e) s t call u v runs runs' ok store under over = (read_later s t store, subst (λ (w : Option Under). GoesOnOver w t call) (sym under) tt)
