use Rattle.std.proofs.Common.{ap, ◌∙◌}
use Rattle.std.proofs.lemmas.Result.{IfOk-weaker}
use Rattle.fn_tree.specs.Course.{get_doc}
use Rattle.fn_vm.specs.Moves.{reads_target}
use Rattle.fn_vm.specs.Views.{state_view, terms_view}
use Rattle.fn_vm.proofs.run.Run.ask_for.Goals as goal

pub returns-in-Missing : goal.returns-in-Missing
returns-in-Missing c = IfOk-weaker c.stop.result _ _ (λ stop h. h _ _ (ap (reads_target (terms_view c.args.terms.now) (state_view c.args.self.now)) c.in-Missing.is)) c.stop.ensures

pub returns-in-None : goal.returns-in-None
returns-in-None c = IfOk-weaker c.stop-in-None.result _ _ (λ stop h. h _ _ (
    ap (reads_target (terms_view c.args.terms.now) (state_view c.args.self.now)) c.in-Found.is ∙ c.in-None.ensures.asked (get_doc c.in-Found.id))) c.stop-in-None.ensures
