use Rattle.std.proofs.Common.{◌≡◌, ◌+◌, ◌≤◌, drop}
use Rattle.fn_code.specs.Coding.{equal_count}
use Rattle.fn_code.proofs.known.equal_count.Given as goal

abbrev pub invariant-loop-op : goal.invariant-loop-op
invariant-loop-op l = record {
  counted : l.count + equal_count (drop l.op-index l.ops) ≡ equal_count l.ops;
  few : l.count ≤ l.op-index;
}
