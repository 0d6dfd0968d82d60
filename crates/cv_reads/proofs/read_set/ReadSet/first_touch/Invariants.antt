use Rattle.std.proofs.Common.{◌≡◌, drop}
use Rattle.cv_reads.specs.FirstTouch.{first_touch, first_touch_from}
use Rattle.cv_reads.proofs.read_set.ReadSet.first_touch.Given as goal

-- no mark so far lies in an interval
abbrev pub invariant-loop-k : goal.invariant-loop-k
invariant-loop-k l = first_touch_from l.k (drop l.k l.marks) l.intervals ≡ first_touch l.marks l.intervals
