use Rattle.std.proofs.lemmas.Result.{IfOk-weaker}
use Rattle.fn_tree.specs.Operators.{builtin_value}
use Rattle.fn_vm.specs.Held.{value_of}
use Rattle.fn_vm.specs.Views.{state_view}
use Rattle.fn_vm.proofs.OperandsTaken.{one_given}
use Rattle.fn_vm.proofs.run.Run.builtin_one.Goals as goal

pub returns : goal.returns
returns c =
    let s = c.args.self.now in
    let vars = s.frame.vars in
    IfOk-weaker c.settle.result _ _ (λ o h. one_given (state_view s) (builtin_value c.args.b) c.args.x vars s.frame.stack c.of-first.new.stack
    (value_of c.of-first.result vars) _ c.one_given-given.result _
    (c.of-first.ensures vars) c.value.ensures c.one_given-given.ensures h) c.settle.ensures
