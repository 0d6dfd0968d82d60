use Rattle.cv_store.proofs.LeftRuns.{tails_leave_runs}
use Rattle.cv_store.proofs.laws.tails_leave_runs.Goals as goal

pub returns : goal.returns
returns c = tails_leave_runs
