use Rattle.std.proofs.Common.{◌≡◌, ◌+◌, ◌-◌, ◌^◌, ◌≤◌, min, length, drop}
use Rattle.cv_keys.specs.KeyBytes.{escaped}
use Rattle.cv_keys.proofs.length.escaped_len.Given as goal

abbrev pub invariant-loop-b : goal.invariant-loop-b
invariant-loop-b l = (l.total ≤ 2 ^ 64 - 1) × (min (l.total + length (escaped (drop l.b-index l.bytes))) (2 ^ 64 - 1) ≡ min (length (escaped l.bytes)) (2 ^ 64 - 1))
