use Rattle.std.proofs.Common.{Option, subst}
use Rattle.fn_code.specs.Steps.{answered}
use Rattle.fn_vm.proofs.Machines.{reaches}
use Rattle.fn_vm.specs.Moves.{Moves}
use Rattle.fn_vm.specs.Views.{state_view, terms_view}
use Rattle.fn_vm.specs.declared.stop.Stop.{Stop}
use Rattle.fn_vm.proofs.run.Run.resume_on.Goals as goal

pub returns-in-Some : goal.returns-in-Some
returns-in-Some c k f =
    let t = terms_view c.args.terms.now in
    let x = answered t c.args.code.now (state_view c.args.self.now) c.args.docs.items in
    let next = state_view c.resume.new.self in
    reaches t c.args.code.now k x c.in-Some.stop next f
    (subst (λ (o : Option Stop). Moves x o next) c.in-Some.is c.in_ok-stop.ensures)
