use Rattle.std.proofs.Common.{◌≡◌, ◌++◌, ◌-◌, drop, take}
use Rattle.cv_store.specs.Tails.{joined}
use Rattle.cv_core.proofs.tail.marks_after.Given as goal

-- with those of the rest these are all
abbrev pub invariant-loop-ts : goal.invariant-loop-ts
invariant-loop-ts l = l.marks.items ++ joined (take (l.ts-end - l.ts) (drop l.ts l.log.marks)) ≡ joined (take l.count (drop l.from l.log.marks))
