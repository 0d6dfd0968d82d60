use Rattle.range_tree.specs.Shape.{size}
use Rattle.range_tree.proofs.search.+search.Given as goal

abbrev pub decreases-search : goal.decreases-search
decreases-search g l = size l.nodes.now.tree
