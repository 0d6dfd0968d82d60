use Rattle.std.proofs.Common.{◌≡◌, ◌++◌, ◌-ℤ◌}
use Rattle.fn_ops.specs.Operations.{integers, count_of}
use Rattle.fn_ops.proofs.arrays.integers.Given as goal

abbrev pub invariant-loop-n : goal.invariant-loop-n
invariant-loop-n l = l.items ++ integers l.n (count_of (l.j -ℤ l.n)) ≡ integers l.i (count_of (l.j -ℤ l.i))
