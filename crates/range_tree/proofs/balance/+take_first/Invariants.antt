use Rattle.range_tree.specs.Shape.{height}
use Rattle.range_tree.proofs.balance.+take_first.Given as goal

abbrev pub decreases-take_first : goal.decreases-take_first
decreases-take_first l = height l.tree
