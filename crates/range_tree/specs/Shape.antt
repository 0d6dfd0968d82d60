-- The height of a tree, its size, its balance, and what a search looks at.
use Rattle.std.specs.Prelude.{◌≡◌, ℕ, suc, ◌+◌, ◌≤◌, max, Bool, true, false, ◌&&◌, ◌||◌, cond, List, [], ◌∷◌, ◌++◌}
use Rattle.range_tree.specs.declared.nodes.memory.Node.{Node}
use Rattle.range_tree.specs.Tree.{Tree, Leaf, Fork}

-- the number of nodes on the longest way down
abbrev pub height : Tree → ℕ
height Leaf = 0
height (Fork p l n r) = suc (max (height l) (height r))

-- the number of nodes
abbrev pub size : Tree → ℕ
size Leaf = 0
size (Fork p l n r) = size l + size r + 1

-- the heights of two siblings differ by at most one
abbrev pub IsBalanced : Tree → Type 0
IsBalanced Leaf = Unit {0}
IsBalanced (Fork p l n r) = (IsBalanced l × IsBalanced r) × (height l ≤ height r + 1) × (height r ≤ height l + 1)

-- a search for a point: starts says that a node's interval begins at the point or before it, and reaches that it ends after it
module _ (starts reaches : Node → Bool) where
  -- whether a node of the tree ends after the point
  abbrev pub some_reaches : Tree → Bool
  some_reaches Leaf = false
  some_reaches (Fork p l n r) = reaches n || (some_reaches l || some_reaches r)

  -- the node, if its interval has the point
  abbrev pub here : Node → List Node
  here n = cond (starts n && reaches n) (n ∷ []) []

  -- the nodes whose interval has the point, in order
  abbrev pub hits : Tree → List Node
  hits Leaf = []
  hits (Fork p l n r) = hits l ++ (here n ++ hits r)

  -- how many nodes are looked at: none below a node whose subtree ends before the point, none right of one that begins after it
  abbrev pub visits : Tree → ℕ
  visits Leaf = 0
  visits (Fork p l n r) = suc (cond (some_reaches (Fork p l n r)) (visits l + cond (starts n) (visits r) 0) 0)

  -- each node begins at the point or before it
  abbrev pub AllStart : Tree → Type 0
  AllStart Leaf = Unit {0}
  AllStart (Fork p l n r) = (starts n ≡ true) × (AllStart l × AllStart r)

  -- where a node starts, so do all before it
  abbrev pub IsCut : Tree → Type 0
  IsCut Leaf = Unit {0}
  IsCut (Fork p l n r) = (starts n ≡ true → AllStart l) × (IsCut l × IsCut r)
