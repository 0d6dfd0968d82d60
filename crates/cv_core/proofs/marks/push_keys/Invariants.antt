use Rattle.std.proofs.Common.{◌≡◌, ◌++◌, drop}
use Rattle.cv_store.specs.Marks.{index_marks}
use Rattle.cv_core.proofs.marks.push_keys.Given as goal

-- with those of the rest these are all
abbrev pub invariant-loop-at : goal.invariant-loop-at
invariant-loop-at l =
    l.marks.items ++ index_marks l.ts l.write l.fresh l.table l.doc l.at (drop l.at l.indexes) ≡ l.initial.marks.items ++ index_marks l.ts l.write l.fresh l.table l.doc 0 l.indexes
