use Rattle.std.proofs.Common.{◌≡◌}
use Rattle.cv_run.specs.Unders.{under_job}
use Rattle.fn_tree.specs.SyntaxViews.{module_view}
use Rattle.cv_stand.specs.Underway.{InCall, started, steps_left}
use Rattle.cv_stand.proofs.call.play_out.Given as goal

-- the call is under way over the log of its begin
abbrev pub invariant-loop-job : goal.invariant-loop-job
invariant-loop-job l = record {
  in_call : InCall (module_view l.program.checked.tree) l.call l.store (under_job l.job);
  log : l.store.core.log ≡ l.fn.store.core.log;
  runs : l.runs.count ≡ started (under_job l.job) l.fn.runs.count;
}

abbrev pub decreases-loop-job : goal.decreases-loop-job
decreases-loop-job l = steps_left (module_view l.program.checked.tree) l.call l.store.core.log (under_job l.job)
