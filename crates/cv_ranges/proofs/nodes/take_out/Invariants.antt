use Rattle.cv_ranges.proofs.Steps.{Takes}
use Rattle.cv_ranges.proofs.nodes.take_out.Given as goal

abbrev pub invariant-loop-k : goal.invariant-loop-k
invariant-loop-k l = Takes l.owner l.reads l.k l.initial.tree l.tree
