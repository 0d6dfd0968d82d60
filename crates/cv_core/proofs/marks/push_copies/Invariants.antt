use Rattle.std.proofs.Common.{◌≡◌, ◌++◌, drop}
use Rattle.cv_core.proofs.marks.push_copies.Given as goal

-- with the rest these are all
abbrev pub invariant-loop-mark : goal.invariant-loop-mark
invariant-loop-mark l = l.marks.items ++ drop l.mark-index l.more ≡ l.initial.marks.items ++ l.more
