use Rattle.std.proofs.Common.{◌≡◌, ◌<◌, Option, subst, arith}
use Rattle.fn_code.specs.CodeMeans.{Follows}
use Rattle.fn_vm.proofs.LastUses.{led_on, leads_less, leads_to}
use Rattle.fn_vm.specs.LastUses.{Leads}
use Rattle.fn_vm.specs.Views.{state_view, terms_view}
use Rattle.fn_vm.specs.declared.stop.Stop.{Stop}
use Rattle.fn_vm.proofs.run.Run.run_on.Goals as goal

pub returns-in-Some : goal.returns-in-Some
returns-in-Some c k f =
    let t = terms_view c.args.terms.now in
    let code = c.args.code.now in
    let s = state_view c.loop-stop.self in
    let next = state_view c.step.new.self in
    leads_to t code k s c.in-Some.stop next (c.loop-stop.invariant k f)
    (subst (λ (o : Option Stop). Leads t code s o next) c.in-Some.is c.in_ok-stop.ensures)

pub loop-stop-smaller : goal.loop-stop-smaller
loop-stop-smaller c =
    let t = terms_view c.args.terms.now in
    let code = c.args.code.now in
    let s = state_view c.loop-stop.self in
    let next = state_view c.step.new.self in
    leads_less t code s next (λ a b. (c.steps_end.ensures t code a b).0) (subst (λ (o : Option Stop). Leads t code s o next) c.in-None.is c.in_ok-stop.ensures)

pub loop-stop-preserved : goal.loop-stop-preserved
loop-stop-preserved c k f =
    let t = terms_view c.args.terms.now in
    let code = c.args.code.now in
    let s = state_view c.loop-stop.self in
    let next = state_view c.step.new.self in
    led_on t code k s next (c.loop-stop.invariant k f) (subst (λ (o : Option Stop). Leads t code s o next) c.in-None.is c.in_ok-stop.ensures)
