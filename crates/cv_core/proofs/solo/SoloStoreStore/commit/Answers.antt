use Rattle.std.proofs.Common.{inl, ap, ◌∙◌}
use Rattle.cv_store.specs.Turns.{after_commit}
use Rattle.cv_core.specs.Solos.{Solo}
use Rattle.cv_core.proofs.Stood.{solo_room, solo_commits, solo_run}
use Rattle.cv_core.proofs.solo.SoloStoreStore.commit.Goals as goal

pub returns-in-Err-clause-turn : goal.returns-in-Err-clause-turn
returns-in-Err-clause-turn c = inl (c.count_commit.ensures ∙ ap (λ (x : Solo). after_commit x.turns) c.self.view_is)

pub returns-in-Err-clause-store : goal.returns-in-Err-clause-store
returns-in-Err-clause-store c =
    let i = c.self.inside in
    solo_room c.args.self.now i.core i.start i.turns c.self.view_is c.self.invariant c.prepare.new.self c.count_commit.new.self c.prepare.ensures.same c.prepare.ensures.well

pub commit-requires-clause-run : goal.commit-requires-clause-run
commit-requires-clause-run c =
    let i = c.self.inside in
    solo_run c.args.self.now i.core i.start i.turns c.self.view_is c.prepare.new.self c.args.p c.prepare.ensures.same c.requires

pub returns-in-Ok-clause-turn : goal.returns-in-Ok-clause-turn
returns-in-Ok-clause-turn c = c.count_commit.ensures ∙ ap (λ (x : Solo). after_commit x.turns) c.self.view_is

pub returns-in-Ok-clause-ok : goal.returns-in-Ok-clause-ok
returns-in-Ok-clause-ok c =
    let i = c.self.inside in
    solo_commits c.args.self.now i.core i.start i.turns c.self.view_is c.self.invariant c.prepare.new.self c.commit.new.self c.count_commit.new.self c.args.p c.commit.result
    c.prepare.ensures.same c.commit.ensures.program c.commit.ensures.well c.commit.ensures.ok
