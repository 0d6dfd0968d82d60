-- What a caller sees of a tree by value.
use Rattle.std.specs.Prelude.{◌≡◌, ℕ, suc, ◌+◌, ◌≤◌, max, List, [], ◌∷◌, ◌++◌, Option, Some, None}
use Rattle.std.specs.declared.boxed.Box.{Box}
use Rattle.std.specs.Global.{Global}
use Rattle.range_tree.specs.declared.nodes.memory.Node.{Node}
use Rattle.range_tree.specs.Ranges.{Owned}
use Rattle.range_tree.specs.Tree.{Tree, Leaf, Fork}

-- what stands in a node besides its links
abbrev pub owned : Node → Owned
owned n = (n.interval, n.owner)

-- the intervals in order, each with its owner
abbrev pub listed : Tree → List Owned
listed Leaf = []
listed (Fork p l n r) = listed l ++ owned n ∷ listed r

-- a tree over l and r, with x in its topmost node
abbrev pub IsOver : Tree → Owned → Tree → Tree → Type 0
IsOver l x r Leaf = ⊥
IsOver l x r (Fork p a m b) = (a ≡ l) × (owned m ≡ x) × (b ≡ r)

-- a tree taken apart
abbrev pub SplitsTo : Tree → Option (Tree × Box Node Global × Tree) → Type 0
SplitsTo t None = t ≡ Leaf
SplitsTo t (Some s) = IsOver s.0 (owned s.1.value) s.2 t

-- the height h of what a node over trees of the heights l and r settles to
abbrev pub SettlesAt : ℕ → ℕ → ℕ → Type 0
SettlesAt l r h = (max l r ≤ h) × (h ≤ max l r + 1) × (l ≤ r + 1 → r ≤ l + 1 → h ≡ suc (max l r))
