use Rattle.std.proofs.Common.{◌≡◌, ◌++◌, drop}
use Rattle.cv_core.specs.Changes.{new_docs}
use Rattle.cv_core.proofs.change.new_docs.Given as goal

-- with those of the rest these are all
abbrev pub invariant-loop-w : goal.invariant-loop-w
invariant-loop-w l = l.docs.items ++ new_docs (drop l.w-index l.writes) ≡ new_docs l.writes
