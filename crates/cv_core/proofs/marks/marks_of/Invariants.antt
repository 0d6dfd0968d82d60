use Rattle.std.proofs.Common.{◌≡◌, ◌++◌, drop}
use Rattle.cv_store.specs.Marks.{writes_marks}
use Rattle.cv_core.proofs.marks.marks_of.Given as goal

-- with those of the rest these are all
abbrev pub invariant-loop-at : goal.invariant-loop-at
invariant-loop-at l = l.marks.items ++ writes_marks l.schema l.ts l.at (drop l.at l.writes) ≡ writes_marks l.schema l.ts 0 l.writes
