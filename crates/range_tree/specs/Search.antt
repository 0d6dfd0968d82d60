-- What a search for a point asks of the nodes.
use Rattle.std.specs.Prelude.{◌≡◌, ℕ, Bool, true, false, not, List, map, Option, Some, None}
use Rattle.range_tree.specs.Points.{Point, point_lt, low, end}
use Rattle.cv_keys.specs.declared.interval.Interval.{Interval}
use Rattle.range_tree.specs.declared.nodes.memory.Node.{Node}
use Rattle.range_tree.specs.Shape.{hits, visits}
use Rattle.range_tree.specs.Tree.{Tree, Leaf, Fork}

-- the interval of the topmost node
abbrev pub interval_of : Tree → Option Interval
interval_of Leaf = None
interval_of (Fork p l n r) = Some n.interval

-- the interval begins at the point or before it
abbrev pub starts_at : Point → Node → Bool
starts_at x n = not (point_lt x (low n.interval))

-- the interval ends after the point
abbrev pub reaches_past : Point → Node → Bool
reaches_past x n = point_lt x (end n.interval)

-- the owners of nodes, in order
abbrev pub owners : List Node → List ℕ
owners = map (λ n. n.owner)

-- the owners that a search for the point hits, in order
abbrev pub found_owners : Point → Tree → List ℕ
found_owners x t = owners (hits (starts_at x) (reaches_past x) t)

-- how many nodes it is shown
abbrev pub shown_nodes : Point → Tree → ℕ
shown_nodes x t = visits (starts_at x) (reaches_past x) t

module _ (x : Point) where
  -- each node begins at the point or before it, or each after it
  abbrev pub AllStartAt : Bool → Tree → Type 0
  AllStartAt b Leaf = Unit {0}
  AllStartAt b (Fork p l n r) = (starts_at x n ≡ b) × (AllStartAt b l × AllStartAt b r)

  -- where a node starts, so do all before it; where it doesn't, no node after it does
  abbrev pub IsCutAt : Tree → Type 0
  IsCutAt Leaf = Unit {0}
  IsCutAt (Fork p l n r) = (starts_at x n ≡ true → AllStartAt true l) × (starts_at x n ≡ false → AllStartAt false r) × IsCutAt l × IsCutAt r
