use Rattle.std.proofs.Common.{take}
use Rattle.range_tree.specs.Ranges.{Takes}
use Rattle.cv_ranges.specs.Hits.{marked_owners}
use Rattle.cv_ranges.proofs.hit.visit_marked.Given as goal

abbrev pub invariant-loop-mark : goal.invariant-loop-mark
invariant-loop-mark g l = Takes g.V.Visit.has_seen l.initial.visit (marked_owners (take l.mark-index l.marks) l.tree) l.visit
