-- The nodes may cross threads. Assumes `Logic`.
use base.Shift.{Keyless}
use denote.Param.Send.{Common}
use Rattle.libc.specs.Heap.{chunk-Keyless}
use Rattle.std_alloc.proofs.SendSync.{lies, seen}
use Rattle.range_tree.specs.contracts.nodes.memory.Node.{the_row as N}
use Rattle.range_tree.proofs.nodes.memory.Node.TheSendSync.{the_send as node_send, the_sync as node_sync}
use Rattle.range_tree.specs.Tree.{Tree, Leaf, Fork}
use Rattle.range_tree.specs.Ownership.{tree_owns, tree_lent}

pub tree_owns-Keyless : (t : Tree) → Keyless (tree_owns t)
tree_owns-Keyless Leaf = tt
tree_owns-Keyless (Fork p l n r) = ((lies N node_send p n, chunk-Keyless _ p), (tree_owns-Keyless l, tree_owns-Keyless r))

pub tree_lent-Common : (t : Tree) → Common (tree_lent t)
tree_lent-Common Leaf κ = tt
tree_lent-Common (Fork p l n r) κ = (seen N node_sync p n κ, (tree_lent-Common l κ, tree_lent-Common r κ))
