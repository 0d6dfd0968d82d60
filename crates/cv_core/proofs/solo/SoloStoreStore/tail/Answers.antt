use Rattle.cv_store.specs.Turns.{after_tail}
use Rattle.cv_core.proofs.Stood.{solo_turn, solo_reads}
use Rattle.cv_core.proofs.solo.SoloStoreStore.tail.Goals as goal

pub returns-clause-store : goal.returns-clause-store
returns-clause-store c =
    let i = c.self.inside in
    solo_reads c.args.self.now i.core i.start i.turns c.self.view_is c.self.invariant c.tail.new.self c.count_tail.new.self c.tail.ensures.same c.tail.ensures.well

pub returns-clause-turn : goal.returns-clause-turn
returns-clause-turn c =
    let i = c.self.inside in
    solo_turn c.args.self.now i.core i.start i.turns c.self.view_is after_tail c.count_tail.new.self c.tail.result c.count_tail.ensures
