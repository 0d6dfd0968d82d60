use Rattle.std.proofs.Common.{sym, ◌∙◌, ap, drop}
use Rattle.fn_tree.specs.Reading.{upper_of}
use Rattle.fn_vm.proofs.Bounds.{no_values}
use Rattle.fn_vm.proofs.scans.upper_of.Goals as goal

pub returns-in_default : goal.returns-in_default
returns-in_default c p = ap (upper_of p) (sym (no_values (drop c.loop-op.op-index c.args.ops.now) c.loop-op.rest.now c.in_default.ensures.cases)) ∙ c.loop-op.invariant p
