use Rattle.fn_tree.proofs.ReadsDecide.{reads_decide}
use Rattle.fn_tree.proofs.RunsAgree.{runs_agree}
use Rattle.fn_tree.proofs.laws.reads_decide.Goals as goal

pub returns-clause-courses : goal.returns-clause-courses
returns-clause-courses c = reads_decide

pub returns-clause-runs : goal.returns-clause-runs
returns-clause-runs c = runs_agree
