use Rattle.std.specs.Prelude.{refl}
use Rattle.std.proofs.lemmas.Result.{IfOk-weaker}
use Rattle.fn_tree.specs.Operators.{builtin_value}
use Rattle.fn_vm.specs.Held.{value_of}
use Rattle.fn_vm.specs.Views.{state_view}
use Rattle.fn_vm.proofs.OperandsTaken.{three_given}
use Rattle.fn_vm.proofs.run.Run.builtin_three.Goals as goal

pub returns : goal.returns
returns c =
    let s = c.args.self.now in
    let vars = s.frame.vars in
    IfOk-weaker c.settle.result _ _ (λ o h. three_given (state_view s) (builtin_value c.args.b) c.args.x c.args.y c.args.z vars s.frame.stack c.of-third.new.stack c.of-second.new.stack c.of-first.new.stack
    (value_of c.of-first.result vars) (value_of c.of-second.result vars) (value_of c.of-third.result vars) _ _ _ c.three_given-given.result _
    (c.of-third.ensures vars) (c.of-second.ensures vars) (c.of-first.ensures vars) refl refl refl c.three_given-given.ensures h) c.settle.ensures
