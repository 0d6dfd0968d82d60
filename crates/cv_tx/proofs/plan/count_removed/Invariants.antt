use Rattle.std.proofs.Common.{◌≡◌, ◌+◌, drop}
use Rattle.cv_tx.specs.Plans.{removed_rows, removed_size}
use Rattle.cv_tx.proofs.plan.count_removed.Given as goal

-- those so far, and then those of the rest
abbrev pub invariant-loop-w : goal.invariant-loop-w
invariant-loop-w l = record {
  rows : l.removed.rows + removed_rows l.table (drop l.w-index l.writes) ≡ removed_rows l.table l.writes;
  size : l.removed.size + removed_size l.table (drop l.w-index l.writes) ≡ removed_size l.table l.writes;
}
