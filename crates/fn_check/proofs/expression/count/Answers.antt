use Rattle.fn_check.proofs.Counts.{count_is}
use Rattle.fn_check.proofs.expression.count.Goals as goal

pub returns : goal.returns
returns c = count_is c.args.es.now
