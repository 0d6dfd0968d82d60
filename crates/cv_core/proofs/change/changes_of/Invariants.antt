use Rattle.std.proofs.Common.{◌≡◌, ◌++◌, drop}
use Rattle.std.specs.List.{AllByRecursion}
use Rattle.cv_core.specs.Changes.{changes_of, WriteFits}
use Rattle.cv_core.proofs.change.changes_of.Given as goal

-- with those of the rest these are all
abbrev pub invariant-loop-w : goal.invariant-loop-w
invariant-loop-w l = record {
  changes : l.changes.items ++ changes_of l.schema l.version (drop l.w-index l.writes) ≡ changes_of l.schema l.fn.first l.writes;
  fits : AllByRecursion (WriteFits l.schema) (drop l.w-index l.writes) → AllByRecursion (WriteFits l.schema) l.writes;
}
