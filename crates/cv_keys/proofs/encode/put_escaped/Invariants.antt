use Rattle.std.proofs.Common.{◌≡◌, ◌++◌, drop}
use Rattle.cv_keys.specs.KeyBytes.{escaped}
use Rattle.cv_keys.proofs.encode.put_escaped.Given as goal

abbrev pub invariant-loop-b : goal.invariant-loop-b
invariant-loop-b l = l.out.items ++ escaped (drop l.b-index l.bytes) ≡ l.initial.out.items ++ escaped l.bytes
