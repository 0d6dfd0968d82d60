use Rattle.std.proofs.Common.{◌≡◌, ◌++◌, drop}
use Rattle.cv_store.specs.Ranges.{DocsInRange}
use Rattle.cv_core.specs.Changes.{changes_in}
use Rattle.cv_core.proofs.change.push_in.Given as goal

-- with those of the rest these are all
abbrev pub invariant-loop-at : goal.invariant-loop-at
invariant-loop-at l = record {
  changes : l.changes.items ++ changes_in l.table l.version l.old l.new l.at (drop l.at l.indexes) ≡ l.initial.changes.items ++ changes_in l.table l.version l.old l.new 0 l.indexes;
  in_range : DocsInRange l.old l.new (drop l.at l.indexes) → DocsInRange l.old l.new l.indexes;
}
