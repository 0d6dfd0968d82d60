use Rattle.std.proofs.Common.{subst}
use Rattle.cv_run.proofs.PauseLemmas.{asks_at, ends_at}
use Rattle.fn_vm.specs.Machines.{Stops}
use Rattle.fn_vm.specs.declared.stop.Stop.{Stop}
use Rattle.cv_run.proofs.run_on.run_on.Goals as goal

pub returns-in-Ask-clause-ok : goal.returns-in-Ask-clause-ok
returns-in-Ask-clause-ok c m s ds runs =
    let code = c.args.code.now in
    let r = c.loop.invariant.0 m s ds runs in
    let stopped = subst (λ (x : Stop). Stops code c.advance.new.self r.course x) c.in-Ask.is (c.in_ok-ask.ensures r.course r.goes) in
    let at = asks_at code m s ds c.advance.new.self c.loop.tx r.course c.in-Ask.ask r.rest stopped in
    c.at_read.ensures code m s ds c.advance.new.self at.0 at.1 at.2

pub returns-in-Done-clause-ok : goal.returns-in-Done-clause-ok
returns-in-Done-clause-ok c m s ds runs =
    let code = c.args.code.now in
    let r = c.loop.invariant.0 m s ds runs in
    let stopped = subst (λ (x : Stop). Stops code c.advance.new.self r.course x) c.in-Done.is (c.in_ok-ask.ensures r.course r.goes) in
    c.at_end.ensures code m s ds c.advance.new.self c.loop.tx (ends_at code m s ds c.advance.new.self c.loop.tx r.course c.in-Done.outcome r.rest stopped)
