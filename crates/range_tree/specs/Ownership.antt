-- What the nodes of a tree own and lend.
use base.Fml.{Lft, Fml, ftrue, fsep}
use denote.Sharing.{nothing, beside}
use denote.Struct.Lending.{lent_at}
use Rattle.libc.specs.Heap.{chunk}
use Rattle.std.specs.Box.Ownership.{box_owns}
use Rattle.range_tree.specs.contracts.nodes.memory.Node.{the_row}
use Rattle.range_tree.specs.Tree.{Tree, Leaf, Fork}

-- each node's block, with the right to free it
abbrev pub tree_owns : Tree → Fml
tree_owns Leaf = ftrue
tree_owns (Fork p l n r) = fsep (box_owns chunk the_row p n) (fsep (tree_owns l) (tree_owns r))

-- each node, lent for reading
abbrev pub tree_lent : Tree → Lft → Fml
tree_lent Leaf = nothing
tree_lent (Fork p l n r) = beside (lent_at the_row p n) (beside (tree_lent l) (tree_lent r))
