use Rattle.std.proofs.Common.{sym, ap, Some}
use Rattle.cv_values.specs.Equality.{pairs_of-members_of}
use Rattle.sync_msgs.proofs.arguments.fields_of.Goals as goal

pub returns-in-Obj : goal.returns-in-Obj
returns-in-Obj c = rw c.in-Obj.is (sym (ap Some (pairs_of-members_of c.in-Obj.fields)))
