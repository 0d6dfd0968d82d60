use Rattle.cv_ranges.proofs.Steps.{Puts}
use Rattle.cv_ranges.proofs.nodes.put.Given as goal

abbrev pub invariant-loop-k : goal.invariant-loop-k
invariant-loop-k l = Puts l.owner l.reads l.k l.initial.tree l.nodes l.tree
