-- A `&` to a tree's nodes is made where one to each node is. Assumes `Logic`.
use seplogic.Ra.Ura.{Ura}
use base.Fraction.{full_share}
use base.Fml.{Lft, Incl, ftrue, fsep}
use mir.Raw.{raw}
use types.Logic.{Logic}
use denote.Memory.{lone}
use denote.RawPtr.{lies_at}
use denote.Sharing.{ShrLaws, beside}
use denote.SharingLaws.{beside_shr_laws, nothing_shr_laws}
use denote.Shares.{Shares-less}
use denote.Struct.Lending.{Lends, lent_at, lent_at_shr_laws, Lends-lies, Lends-first, Lends-both, Lends-nothing}
use Rattle.libc.specs.Heap.{chunk}
use Rattle.std.specs.Box.Ownership.{box_owns}
use Rattle.range_tree.specs.contracts.nodes.memory.Node.{the_row as N}
use Rattle.range_tree.proofs.nodes.memory.Node.TheLaws.{the_row_laws as LN}
use Rattle.range_tree.specs.Tree.{Tree, Leaf, Fork}
use Rattle.range_tree.specs.Ownership.{tree_owns, tree_lent}

pub tree_lent_laws : (t : Tree) → ShrLaws (tree_lent t)
tree_lent_laws Leaf = nothing_shr_laws
tree_lent_laws (Fork p l n r) = beside_shr_laws _ _ (lent_at_shr_laws N LN.shr_laws p n) (beside_shr_laws _ _ (tree_lent_laws l) (tree_lent_laws r))

module _ {M : Type 1} {𝓤 : Ura M} (𝓛 : Logic 𝓤) (l : Lft) (inc : Incl l N.lives) where
  pub Lends-tree : (t : Tree) → Lends 𝓛 (tree_owns t) (tree_lent t) l
  Lends-tree Leaf = Lends-nothing 𝓛 ftrue l
  Lends-tree (Fork p a n b) =
      Lends-both 𝓛 (box_owns chunk N p n) (fsep (tree_owns a) (tree_owns b)) (lent_at N p n) (beside (tree_lent a) (tree_lent b)) l
      (Lends-first 𝓛 (lies_at N full_share p n) (chunk (raw (lone N.mir)) p) (lent_at N p n) l
      (Lends-lies 𝓛 N l p n (Shares-less 𝓛 N N.lives l inc (LN.shares 𝓛) n)))
      (Lends-both 𝓛 (tree_owns a) (tree_owns b) (tree_lent a) (tree_lent b) l (Lends-tree a) (Lends-tree b))
