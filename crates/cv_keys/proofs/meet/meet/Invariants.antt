use Rattle.std.proofs.Common.{◌≡◌, drop}
use Rattle.cv_keys.specs.Meets.{met}
use Rattle.cv_keys.proofs.meet.meet.Given as goal

abbrev pub invariant-loop-b : goal.invariant-loop-b
invariant-loop-b l = met (drop l.b-index l.bytes) l.rest ≡ met l.bytes l.target
