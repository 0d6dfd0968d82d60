use Rattle.std.proofs.Common.{◌∙◌}
use Rattle.std.proofs.lemmas.Result.{IfOk-weaker}
use Rattle.fn_vm.proofs.OperandsTaken.{many_operands}
use Rattle.fn_vm.specs.Views.{state_view}
use Rattle.fn_vm.proofs.run.Run.builtin.Goals as goal

pub returns-in-len4-up : goal.returns-in-len4-up
returns-in-len4-up c =
    let s = c.args.self.now in
    IfOk-weaker c.stick-in-len4-up.result _ _ (λ o h. many_operands (state_view s) c.args.b c.args.sources.now s.frame.vars s.frame.stack c.in-len4-up.len_at_least ∙ h (state_view s)) c.stick-in-len4-up.ensures
