use Rattle.fn_tree.specs.Operators.{builtin_value}
use Rattle.fn_vm.proofs.OperandsTaken.{three_seen}
use Rattle.fn_vm.proofs.values.three_given.Goals as goal

pub returns-in_default : goal.returns-in_default
returns-in_default c =
    three_seen c.seen_three.result (builtin_value c.args.b) _ _ _ _ _ _ c.value.ensures c.value-in_default.ensures c.value-in_default-2.ensures (c.seen_three.ensures c.in_default.not-Set)
