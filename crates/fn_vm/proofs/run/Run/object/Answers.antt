use Rattle.std.proofs.Common.{[], map, zip, ap, sym}
use Rattle.std.proofs.lemmas.Result.{IfOk-weaker}
use Rattle.cv_values.specs.Trees.{tree}
use Rattle.fn_ops.specs.Operations as ops
use Rattle.fn_tree.specs.Writing.{with_members}
use Rattle.fn_vm.proofs.OperandsTaken.{values_given, given_exact}
use Rattle.fn_vm.specs.Views.{state_view}
use Rattle.fn_vm.proofs.run.Run.object.Goals as goal

pub returns : goal.returns
returns c =
    let given = c.object_of-given in
    IfOk-weaker c.settle.result _ _ (λ o h. values_given (state_view c.args.self.now) (λ vs. ops.object_of (with_members (zip c.args.names.now vs) [])) _ (map tree c.in-Some.values.items) c.pop_many.new.self (ops.object_of c.in_ok-fields.fields) given.result _
    (rw c.in-Some.is at c.in_ok-values.ensures) (ap ops.object_of (sym c.in_ok-fields.ensures)) (given_exact given.result _ given.ensures.ok given.ensures.err) h) c.settle.ensures
