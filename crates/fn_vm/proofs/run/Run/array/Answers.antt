use Rattle.std.proofs.Common.{map, ap, sym}
use Rattle.std.proofs.lemmas.Result.{IfOk-weaker}
use Rattle.cv_values.specs.Trees.{tree}
use Rattle.fn_ops.specs.Operations as ops
use Rattle.fn_vm.proofs.OperandsTaken.{values_given, given_exact}
use Rattle.fn_vm.specs.Views.{state_view}
use Rattle.fn_vm.proofs.run.Run.array.Goals as goal

pub returns : goal.returns
returns c =
    let given = c.array_of-given in
    IfOk-weaker c.settle.result _ _ (λ o h. values_given (state_view c.args.self.now) ops.array_of _ (map tree c.in-Some.values.items) c.pop_many.new.self (ops.array_of c.from_vec.result) given.result _
    (rw c.in-Some.is at c.in_ok-values.ensures) (ap ops.array_of (sym c.from_vec.ensures)) (given_exact given.result _ given.ensures.ok given.ensures.err) h) c.settle.ensures
