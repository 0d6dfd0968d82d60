use Rattle.range_tree.specs.Shape.{height}
use Rattle.range_tree.proofs.change.+free_all.Given as goal

abbrev pub decreases-free_all : goal.decreases-free_all
decreases-free_all l = height l.tree
