use Rattle.std.proofs.Common.{rules, ◌≡◌, refl}
use Rattle.crossbeam_queue.specs.Passes.{view}
use Rattle.conn_pool.proofs.Balance.{takes, even_back, even_aside}
use Rattle.conn_pool.proofs.pool.Pool.turn_one.Goals as goal

pub try_pop_as-requires-clause-rule : goal.try_pop_as-requires-clause-rule
try_pop_as-requires-clause-rule g c = takes _ _ c.requires.parts.0

pub returns-then-matches-clause-even : goal.returns-then-matches-clause-even
returns-then-matches-clause-even g c =
    let m : g.C.Turnable.mark c.in-Some.field-0.conn ≡ g.C.Turnable.mark c.turn-went.new.self = search rules in
    λ h. rw (c.in-Some.ensures.rule, c.set_aside.ensures.put) (even_aside g.C.Turnable.mark (view c.args.waiting.now) (view c.args.aside.now) c.in-Some.field-0 (record { number = c.in-Some.field-0.number; conn = c.turn-went.new.self }) refl m c.requires.even h)

pub returns-else-matches-clause-even : goal.returns-else-matches-clause-even
returns-else-matches-clause-even g c =
    let m : g.C.Turnable.mark c.in-Some.field-0.conn ≡ g.C.Turnable.mark c.turn-went.new.self = search rules in
    λ h. rw (c.put_back.ensures.back, c.in-Some.ensures.rule) (even_back g.C.Turnable.mark (view c.args.waiting.now) (view c.args.aside.now) c.in-Some.field-0 (record { number = c.in-Some.field-0.number; conn = c.turn-went.new.self }) refl m c.requires.even h)
