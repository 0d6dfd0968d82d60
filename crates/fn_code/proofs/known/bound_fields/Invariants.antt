use Rattle.std.proofs.Common.{◌≡◌, drop}
use Rattle.fn_code.specs.Coding.{bound_fields}
use Rattle.fn_code.proofs.known.bound_fields.Given as goal

abbrev pub invariant-loop-op : goal.invariant-loop-op
invariant-loop-op l = bound_fields (drop l.op-index l.ops) ≡ bound_fields l.ops
