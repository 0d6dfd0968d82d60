use Rattle.cv_stand.proofs.Logs.{one_log}
use Rattle.cv_stand.proofs.laws.scripts_make_one_log.Goals as goal

pub returns : goal.returns
returns c = one_log
