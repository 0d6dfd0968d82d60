use Rattle.std.proofs.Common.{◌≡◌, ◌++◌, ◌-◌}
use Rattle.cv_values.specs.Ids.{hex_of}
use Rattle.cv_keys.proofs.ids.put_hex.Given as goal

abbrev pub invariant-loop-i : goal.invariant-loop-i
invariant-loop-i l = l.out.items ++ hex_of (l.width - l.i) l.number ≡ l.initial.out.items ++ hex_of l.width l.number
