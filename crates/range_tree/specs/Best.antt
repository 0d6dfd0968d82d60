-- Which node of a tree has the greatest end, and how the links of its nodes lead.
use Rattle.std.specs.Prelude.{◌≡◌, Bool, true, false, cond, Option, Some, None}
use Rattle.range_tree.specs.Points.{point_lt, end}
use Rattle.range_tree.specs.declared.nodes.memory.Link.{Link}
use Rattle.range_tree.specs.Tree.{Tree, Leaf, Fork, root_of}
use Rattle.range_tree.specs.Shape.{height}

-- the topmost node of the one tree ends before that of the other; no node ends first of all
abbrev pub ends_before : Tree → Tree → Bool
ends_before s Leaf = false
ends_before Leaf (Fork p l n r) = true
ends_before (Fork q k m u) (Fork p l n r) = point_lt (end m.interval) (end n.interval)

-- the tree whose topmost node ends later, the first of two that end at the same point
abbrev pub further_of : Tree → Tree → Tree
further_of s t = cond (ends_before s t) t s

-- the part of the tree whose topmost node has the greatest end
abbrev pub best_of : Tree → Tree
best_of Leaf = Leaf
best_of (Fork p l n r) = further_of (further_of (Fork p l n r) (best_of l)) (best_of r)

-- a link leads to the top of a tree
abbrev pub LeadsTo : Option Link → Tree → Type 0
LeadsTo None t = t ≡ Leaf
LeadsTo (Some at) t = root_of t ≡ Some at.ptr

-- the link to the greatest end: none where the topmost node has it
abbrev pub LeadsToBest : Option Link → Tree → Type 0
LeadsToBest None t = best_of t ≡ t
LeadsToBest (Some at) t = root_of (best_of t) ≡ Some at.ptr

-- what stands in the nodes is right
abbrev pub IsLinked : Tree → Type 0
IsLinked Leaf = Unit {0}
IsLinked (Fork p l n r) = (LeadsTo n.left l × LeadsTo n.right r × LeadsToBest n.best (Fork p l n r) × (n.height ≡ height (Fork p l n r))) × (IsLinked l × IsLinked r)
