use Rattle.fn_ops.proofs.ReadBack.{set_is_read, without_is_read, push_is_read}
use Rattle.fn_ops.proofs.laws.changes_are_read_back.Goals as goal

pub returns-clause-set : goal.returns-clause-set
returns-clause-set c = set_is_read

pub returns-clause-without : goal.returns-clause-without
returns-clause-without c = without_is_read

pub returns-clause-push : goal.returns-clause-push
returns-clause-push c = push_is_read
