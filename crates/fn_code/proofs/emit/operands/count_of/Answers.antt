use Rattle.fn_code.proofs.Lists.{count_is}
use Rattle.fn_code.proofs.emit.operands.count_of.Goals as goal

pub returns : goal.returns
returns c = count_is c.args.es.now
