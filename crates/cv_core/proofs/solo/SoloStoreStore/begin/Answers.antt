use Rattle.cv_store.specs.Turns.{after_begin}
use Rattle.cv_core.proofs.Stood.{solo_turn, solo_reads}
use Rattle.cv_core.proofs.solo.SoloStoreStore.begin.Goals as goal

pub returns-clause-store : goal.returns-clause-store
returns-clause-store c =
    let i = c.self.inside in
    solo_reads c.args.self.now i.core i.start i.turns c.self.view_is c.self.invariant c.begin.new.self c.count_begin.new.self c.begin.ensures.same c.begin.ensures.well

pub returns-clause-turn : goal.returns-clause-turn
returns-clause-turn c =
    let i = c.self.inside in
    solo_turn c.args.self.now i.core i.start i.turns c.self.view_is after_begin c.count_begin.new.self c.begin.result c.count_begin.ensures
