use Rattle.std.proofs.Common.{◌≡◌, sym}
use Rattle.fn_vm.proofs.Following.{follows_ends}
use Rattle.fn_vm.proofs.Machines.{follows_at}
use Rattle.fn_vm.specs.Views.{outcome_view, terms_view}
use Rattle.fn_vm.specs.declared.machine.Phase.TheVariants.{Refused}
use Rattle.fn_vm.proofs.machine.Machine.next_stop.Goals as goal

pub returns-in-Refused : goal.returns-in-Refused
returns-in-Refused c k goes =
    let m = c.args.self.now in
    let o = c.in-Refused.outcome in
    let stands : m.phase ≡ Refused o = sym c.in-Refused.ensures.value in
    follows_ends (terms_view m.terms) c.args.code.now k (outcome_view o) (follows_at c.args.code.now k m (Refused o) stands goes)
