use Rattle.fn_tree.proofs.TrueRuns.{runs_put_truly}
use Rattle.fn_tree.proofs.laws.runs_put_truly.Goals as goal

pub returns : goal.returns
returns c = runs_put_truly
