use Rattle.cv_core.proofs.Committing.{well_of}
use Rattle.cv_core.proofs.the_core.Core.stands_well.Goals as goal

pub returns : goal.returns
returns c =
    let i = c.self.inside in
    well_of i.checked.tree i.log i.rows c.args.self.now c.self.invariant c.self.view_is
