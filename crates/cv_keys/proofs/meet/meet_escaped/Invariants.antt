use Rattle.std.proofs.Common.{◌≡◌, drop}
use Rattle.cv_keys.specs.KeyBytes.{escaped}
use Rattle.cv_keys.specs.Meets.{met}
use Rattle.cv_keys.proofs.meet.meet_escaped.Given as goal

abbrev pub invariant-loop-b : goal.invariant-loop-b
invariant-loop-b l = met (escaped (drop l.b-index l.bytes)) l.rest ≡ met (escaped l.bytes) l.target
