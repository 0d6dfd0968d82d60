use Rattle.std.proofs.Common.{◌≡◌, Some, Option, sym, ap, ◌∙◌}
use Rattle.fn_vm.proofs.LastUses.{pair_leads}
use Rattle.fn_vm.specs.Views.{state_view, terms_view}
use Rattle.fn_vm.proofs.run.Run.step.Goals as goal

pub returns-in_ok-use_up-in-Some-last_use : goal.returns-in_ok-use_up-in-Some-last_use
returns-in_ok-use_up-in-Some-last_use c =
    pair_leads (terms_view c.args.terms.now) c.args.code.now (state_view c.args.self.now) (state_view c.use_up.new.self) c.in-Some-last_use.last c.as_stop.result
    (sym c.in-Some.ensures.there ∙ ap Some c.in-Some-last_use.ensures.first) c.in-Some-last_use.ensures.second
    (c.as_stop.ensures _ _ (c.in_ok-use_up-in-Some-last_use.ensures c.args.code.now))
