use Rattle.std.proofs.Common.{sym, ◌∙◌, ◌++◌, Some, ap, append-nil, drop, map}
use Rattle.fn_tree.specs.Reading.{equals_of}
use Rattle.fn_vm.proofs.Bounds.{no_values}
use Rattle.fn_vm.proofs.scans.equals_of.Goals as goal

pub returns-in_default : goal.returns-in_default
returns-in_default c =
    let so_far = map Some c.loop-op.equals in
    sym (append-nil so_far) ∙ ap (λ bs. so_far ++ equals_of bs) (sym (no_values (drop c.loop-op.op-index c.args.ops.now) c.loop-op.rest.now c.in_default.ensures.cases)) ∙ c.loop-op.invariant
