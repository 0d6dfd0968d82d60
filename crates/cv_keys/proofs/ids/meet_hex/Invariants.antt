use Rattle.std.proofs.Common.{◌≡◌, ◌-◌}
use Rattle.cv_keys.specs.Meets.{met}
use Rattle.cv_values.specs.Ids.{hex_of}
use Rattle.cv_keys.proofs.ids.meet_hex.Given as goal

abbrev pub invariant-loop-i : goal.invariant-loop-i
invariant-loop-i l = met (hex_of (l.width - l.i) l.number) l.rest ≡ met (hex_of l.width l.number) l.target
