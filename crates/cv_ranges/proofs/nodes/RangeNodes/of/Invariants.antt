use Rattle.cv_ranges.proofs.Steps.{Makes}
use Rattle.cv_ranges.proofs.nodes.RangeNodes.of.Given as goal

abbrev pub invariant-loop-k : goal.invariant-loop-k
invariant-loop-k l = Makes l.owner l.reads l.k l.nodes
