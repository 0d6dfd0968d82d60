use Rattle.cv_core.proofs.Stood.{solo_well}
use Rattle.cv_core.proofs.solo.SoloStoreStore.stands_well.Goals as goal

pub returns : goal.returns
returns c =
    let i = c.self.inside in
    solo_well c.args.self.now i.core i.start i.turns c.self.view_is c.self.invariant c.stands_well.ensures
