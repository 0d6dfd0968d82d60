use Rattle.std.proofs.Common.{◌≡◌, ◌≤◌, ◌++◌, length}
use Rattle.std.specs.Vec.Iter.{into_iter_items}
use Rattle.cv_core.proofs.rows.push_all.Given as goal

-- with those to come these are all, and there is room for them
abbrev pub invariant-loop-doc : goal.invariant-loop-doc
invariant-loop-doc l = record {
  docs : l.docs.docs ++ into_iter_items l.doc-iterator ≡ l.initial.docs.docs ++ l.fn.more.items;
  room : length (into_iter_items l.doc-iterator) ≤ l.docs.spare;
}
