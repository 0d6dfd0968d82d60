-- The shape of a tree: where each node lies, and what stands in it.
use Rattle.std.proofs.Common.{ap, subst}
use Rattle.std.proofs.lemmas.List.{append_assoc, append-nil}
use Rattle.std.specs.Prelude.{◌≡◌, refl, List, [], ◌∷◌, ◌++◌, Option, Some, None}
pub use denote.RawPtr.{Ptr}
use denote.RawPtr.{coded_ptr}
use Rattle.std.specs.Coded.{Coded, code_by, coded×, coded_list, coded_option}
use Rattle.range_tree.specs.declared.nodes.memory.Node.{Node}
use Rattle.range_tree.specs.contracts.nodes.memory.Node.{the_row}

-- no node, or a node with its place and the trees on its left and its right
pub data Tree : Type 0 where
  Leaf : Tree
  Fork : Ptr → Tree → Node → Tree → Tree

-- a tree as a list: each side, and then the node over both
abbrev pub written : Tree → List (Option (Ptr × Node))
written Leaf = None ∷ []
written (Fork p l n r) = written l ++ (written r ++ Some (p, n) ∷ [])

-- the trees that such a list builds on those at hand
abbrev pub built : List (Option (Ptr × Node)) → List Tree → List Tree
built [] ts = ts
built (None ∷ xs) ts = built xs (Leaf ∷ ts)
built (Some x ∷ xs) [] = built xs []
built (Some x ∷ xs) (r ∷ []) = built xs []
built (Some x ∷ xs) (r ∷ l ∷ ts) = built xs (Fork x.0 l x.1 r ∷ ts)

-- the tree that was built last
abbrev pub first_tree : List Tree → Tree
first_tree [] = Leaf
first_tree (t ∷ ts) = t

-- a tree's list builds the tree
pub built_written : (t : Tree) (xs : List (Option (Ptr × Node))) (ts : List Tree) → built (written t ++ xs) ts ≡ built xs (t ∷ ts)
built_written Leaf xs ts = refl
built_written (Fork p l n r) xs ts =
    rw (
      append_assoc (written l) (written r ++ Some (p, n) ∷ []) xs,
      append_assoc (written r) (Some (p, n) ∷ []) xs,
      built_written l (written r ++ Some (p, n) ∷ xs) ts,
      built_written r (Some (p, n) ∷ xs) (l ∷ ts),
    ) refl

-- so the list gives the tree back
pub read_back : (t : Tree) → first_tree (built (written t) []) ≡ t
read_back t = ap first_tree (subst (λ (xs : List (Option (Ptr × Node))). built xs [] ≡ t ∷ []) (append-nil (written t)) (built_written t [] []))

-- a tree is kept as its list
abbrev pub tree_coded : Coded Tree
tree_coded = code_by (List (Option (Ptr × Node))) (coded_list (coded_option (coded× coded_ptr the_row.coded))) written (λ xs. first_tree (built xs [])) read_back

-- where the topmost node lies
abbrev pub root_of : Tree → Option Ptr
root_of Leaf = None
root_of (Fork p l n r) = Some p

-- what stands in the topmost node
abbrev pub node_of : Tree → Option Node
node_of Leaf = None
node_of (Fork p l n r) = Some n

-- what lies on the left of the topmost node
abbrev pub left_of : Tree → Tree
left_of Leaf = Leaf
left_of (Fork p l n r) = l

-- what lies on the right of the topmost node
abbrev pub right_of : Tree → Tree
right_of Leaf = Leaf
right_of (Fork p l n r) = r

-- a tree with a node
pub forked : (t : Tree) (p : Ptr) → root_of t ≡ Some p → (l : Tree) × (n : Node) × (r : Tree) × (t ≡ Fork p l n r)
forked Leaf p e = cc
forked (Fork q l n r) p e = let same : q ≡ p = cc in (l, n, r, λ i. Fork (same i) l n r)
