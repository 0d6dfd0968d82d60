use Rattle.std.proofs.lemmas.Result.{IfOk-weaker}
use Rattle.fn_code.specs.Steps.{on_pair}
use Rattle.fn_tree.specs.Operators.{eager_value}
use Rattle.fn_vm.proofs.OperandsTaken.{two_given}
use Rattle.fn_vm.specs.Held.{value_of}
use Rattle.fn_vm.specs.Views.{state_view}
use Rattle.fn_vm.proofs.run.Run.binary.Goals as goal

pub returns : goal.returns
returns c =
    let s = c.args.self.now in
    let vars = s.frame.vars in
    IfOk-weaker c.settle.result _ _ (λ o h. two_given (state_view s) (on_pair (eager_value c.args.op)) c.args.a c.args.b vars s.frame.stack c.of-right.new.stack c.of-left.new.stack
    (value_of c.of-left.result vars) (value_of c.of-right.result vars) _ _ c.binary_given-given.result _
    (c.of-right.ensures vars) (c.of-left.ensures vars) c.value.ensures c.value-2.ensures c.binary_given-given.ensures h) c.settle.ensures
