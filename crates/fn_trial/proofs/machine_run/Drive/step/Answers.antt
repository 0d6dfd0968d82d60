use Rattle.std.proofs.Common.{subst}
use Rattle.fn_tree.specs.Course.{Course}
use Rattle.fn_vm.specs.Machines.{Stops}
use Rattle.fn_vm.specs.declared.stop.Stop.{Stop}
use Rattle.fn_trial.specs.Driven.{IsRest}
use Rattle.fn_trial.proofs.Driving.{asks_same}
use Rattle.fn_trial.proofs.machine_run.Drive.step.Goals as goal

pub returns-in_ok-answer-in-Ask : goal.returns-in_ok-answer-in-Ask
returns-in_ok-answer-in-Ask c whole drives =
    let code = c.args.code.now in
    let schema = c.args.schema.now in
    let docs = c.args.docs.now in
    let before = c.args.self.now in
    let s = subst (λ (x : Stop). Stops code c.advance.new.self drives.0 x) c.in-Ask.is (c.in_ok-ask.ensures drives.0 drives.1) in
    let rest = subst (λ (k : Course). IsRest schema docs before.puts.items before.reads.items whole k) s.2 drives.2 in
    let more = c.in_ok-answer-in-Ask.ensures code whole s.0 s.1 (asks_same c.in-Ask.ask s.0 s.3) s.4 rest in
    record { drives = more.drives; more = more.more }
