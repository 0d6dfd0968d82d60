use Rattle.std.proofs.Common.{◌≡◌, drop}
use Rattle.cv_store.specs.Tails.{joined}
use Rattle.cv_store.specs.TouchLaws.{mark_touch}
use Rattle.cv_log.specs.Logs.{marks_in}
use Rattle.cv_log.proofs.touch.first_conflict.Given as goal

-- no mark so far touches
abbrev pub invariant-loop-one : goal.invariant-loop-one
invariant-loop-one l = mark_touch (joined (marks_in (drop l.one-index l.marked))) l.reads ≡ mark_touch (joined (marks_in l.marked)) l.reads
