use Rattle.range_tree.specs.Shape.{height}
use Rattle.range_tree.proofs.change.+remove.Given as goal

abbrev pub decreases-remove : goal.decreases-remove
decreases-remove l = height l.tree
