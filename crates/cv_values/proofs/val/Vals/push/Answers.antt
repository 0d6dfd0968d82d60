use Rattle.std.proofs.Common.{sym}
use Rattle.cv_values.proofs.Measured.{items_last}
use Rattle.cv_values.proofs.val.Vals.push.Goals as goal

pub invariant_of-self-2 : goal.invariant_of-self-2
invariant_of-self-2 c = rw (c.in_ok-push.ensures.items, c.add-self-inside.ensures, c.of_val-added.ensures, c.self.invariant) (sym (items_last c.self.inside.items.items c.args.v))
