use Rattle.std.proofs.Common.{Some, None, refl, sym}
use Rattle.cv_core.proofs.Committing.{touch_told}
use Rattle.cv_core.proofs.the_core.Core.end.Goals as goal

pub append-requires-clause-untouched : goal.append-requires-clause-untouched
append-requires-clause-untouched c =
    let i = c.self.inside in sym (touch_told i.checked.tree i.log i.rows c.args.self.now c.args.p None c.self.invariant c.self.view_is c.in-None.ensures)

pub returns-in-Some : goal.returns-in-Some
returns-in-Some c =
    let i = c.self.inside in
    record {
      program = refl;
      ok = (refl, c.requires.new, sym (touch_told i.checked.tree i.log i.rows c.args.self.now c.args.p (Some c.in-Some.conflict) c.self.invariant c.self.view_is c.in-Some.ensures));
    }
