use Rattle.cv_store.specs.Turns.{after_look}
use Rattle.cv_core.proofs.Stood.{solo_turn, solo_reads}
use Rattle.cv_core.proofs.solo.SoloStoreStore.look.Goals as goal

pub returns-clause-store : goal.returns-clause-store
returns-clause-store c =
    let i = c.self.inside in
    (solo_reads c.args.self.now i.core i.start i.turns c.self.view_is c.self.invariant c.look.new.self c.count_look.new.self c.look.ensures.same c.look.ensures.well).extends

pub returns-clause-turn : goal.returns-clause-turn
returns-clause-turn c =
    let i = c.self.inside in
    solo_turn c.args.self.now i.core i.start i.turns c.self.view_is after_look c.count_look.new.self c.look.result c.count_look.ensures
