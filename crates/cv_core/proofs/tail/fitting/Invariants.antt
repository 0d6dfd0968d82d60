use Rattle.std.proofs.Common.{◌≡◌, ◌+◌, ◌-◌, ◌≤◌, length, drop}
use Rattle.cv_store.specs.Tails.{tail_entries, tail_marks, fitting}
use Rattle.cv_core.proofs.tail.fitting.Given as goal

-- those so far fit, and the others go on from there
abbrev pub invariant-loop-taken : goal.invariant-loop-taken
invariant-loop-taken l = record {
  fitting : fitting tail_entries tail_marks (drop l.from l.log.marks) ≡ l.taken + fitting (tail_entries - l.taken) l.room (drop (l.from + l.taken) l.log.marks);
  within : l.from + l.taken ≤ length l.log.marks;
}
