use Rattle.cv_store.specs.Turns.{after_read}
use Rattle.cv_core.proofs.Stood.{solo_turn, solo_reads}
use Rattle.cv_core.proofs.solo.SoloStoreStore.read.Goals as goal

pub returns-clause-store : goal.returns-clause-store
returns-clause-store c =
    let i = c.self.inside in
    solo_reads c.args.self.now i.core i.start i.turns c.self.view_is c.self.invariant c.read.new.self c.count_read.new.self c.read.ensures.same c.read.ensures.well

pub returns-clause-turn : goal.returns-clause-turn
returns-clause-turn c =
    let i = c.self.inside in
    solo_turn c.args.self.now i.core i.start i.turns c.self.view_is after_read c.count_read.new.self c.read.result c.count_read.ensures
