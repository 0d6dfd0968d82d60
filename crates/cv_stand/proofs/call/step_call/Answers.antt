use Rattle.std.proofs.Common.{ℕ, subst, inl, inr}
use Rattle.cv_core.specs.Solos.{stands_of}
use Rattle.cv_run.specs.Unders.{under_job}
use Rattle.cv_store.specs.Jobs.{Steps}
use Rattle.cv_store.specs.declared.job.JobWent.{JobWent}
use Rattle.fn_tree.specs.SyntaxViews.{module_view}
use Rattle.cv_stand.proofs.Playing.{moves, never_sent, ends, counts_moves, counts_ends}
use Rattle.cv_stand.proofs.call.step_call.Goals as goal

pub returns-in-Done-clause-ok : goal.returns-in-Done-clause-ok
returns-in-Done-clause-ok c =
    let m = module_view c.args.program.now.checked.tree in
    let call = c.args.call.now in
    let s = c.args.store.now in
    let t = c.step.new.store in
    let u = under_job c.args.job.now in
    let v = under_job c.step.new.self in
    let n = c.args.runs.now.count in
    let k = c.step.new.runs.count in
    ends m call s t u v n k c.in-Done.ts c.in-Done.reply c.requires
    (subst (λ (w : JobWent). Steps (stands_of s) (stands_of t) call u v n k w) c.in-Done.is c.in_ok-ts.ensures.ok)

pub returns-in-Done-clause-runs : goal.returns-in-Done-clause-runs
returns-in-Done-clause-runs c =
    let m = module_view c.args.program.now.checked.tree in
    let call = c.args.call.now in
    let s = c.args.store.now in
    let t = c.step.new.store in
    let u = under_job c.args.job.now in
    let v = under_job c.step.new.self in
    let n = c.args.runs.now.count in
    let k = c.step.new.runs.count in
    λ (first : ℕ). counts_ends m call s t u v n k c.in-Done.ts first c.in-Done.reply c.requires
    (subst (λ (w : JobWent). Steps (stands_of s) (stands_of t) call u v n k w) c.in-Done.is c.in_ok-ts.ensures.ok)

pub returns-in-Moved : goal.returns-in-Moved
returns-in-Moved c =
    let m = module_view c.args.program.now.checked.tree in
    let call = c.args.call.now in
    let s = c.args.store.now in
    let t = c.step.new.store in
    let u = under_job c.args.job.now in
    let v = under_job c.step.new.self in
    let n = c.args.runs.now.count in
    let k = c.step.new.runs.count in
    record {
      ok = elim c.in-Moved.is [
        | inl e ↦ moves m call s t u v n k c.requires (subst (λ (w : JobWent). Steps (stands_of s) (stands_of t) call u v n k w) e c.in_ok-ts.ensures.ok)
        | inr e ↦ absurd (never_sent m call s t u v n k e.0 c.requires (subst (λ (w : JobWent). Steps (stands_of s) (stands_of t) call u v n k w) e.1 c.in_ok-ts.ensures.ok))
      ];
      runs = elim c.in-Moved.is [
        | inl e ↦ λ (first : ℕ). counts_moves m call s t u v n k first c.requires (subst (λ (w : JobWent). Steps (stands_of s) (stands_of t) call u v n k w) e c.in_ok-ts.ensures.ok)
        | inr e ↦ absurd (never_sent m call s t u v n k e.0 c.requires (subst (λ (w : JobWent). Steps (stands_of s) (stands_of t) call u v n k w) e.1 c.in_ok-ts.ensures.ok))
      ];
      start = tt;
      under = tt;
      tried = tt;
    }
