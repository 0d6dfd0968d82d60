use Rattle.range_tree.specs.Shape.{height}
use Rattle.range_tree.proofs.change.+insert.Given as goal

abbrev pub decreases-insert : goal.decreases-insert
decreases-insert l = height l.tree
