-- A `&` to a tree's nodes shows each part of the tree. Assumes `Logic`.
use mathlib.Core.Path.{◌≡◌, sym, subst}
use mathlib.Core.Bool.{Bool, true, false, cond}
use seplogic.Ra.Ura.{Ura}
use base.Logic.{SProp, ent, via, id⊢, fst∗, snd∗, sep}
use base.Fml.{Lft}
use types.Logic.{Logic, sem}
use denote.RawPtr.{Ptr}
use denote.Struct.Lending.{lent_at}
use Rattle.range_tree.specs.declared.nodes.memory.Node.{Node}
use Rattle.range_tree.specs.contracts.nodes.memory.Node.{the_row as N}
use Rattle.range_tree.specs.Tree.{Tree, Leaf, Fork, left_of, right_of}
use Rattle.range_tree.specs.Best.{ends_before, further_of, best_of}
use Rattle.range_tree.specs.Ownership.{tree_lent}

module _ {M : Type 1} {𝓤 : Ura M} (𝓛 : Logic 𝓤) (κ : Lft) where
  same : (s t : Tree) → s ≡ t → ent 𝓤 (sem 𝓛 (tree_lent t κ)) (sem 𝓛 (tree_lent s κ))
  same s t e = subst (λ (x : Tree). ent 𝓤 (sem 𝓛 (tree_lent x κ)) (sem 𝓛 (tree_lent s κ))) e (id⊢ 𝓤 (sem 𝓛 (tree_lent s κ)))

  abbrev S : Tree → SProp 𝓤
  S t = sem 𝓛 (tree_lent t κ)

  pub shows_left : (t : Tree) → ent 𝓤 (S t) (S (left_of t))
  shows_left Leaf = id⊢ 𝓤 (S Leaf)
  shows_left (Fork p l n r) = via 𝓤 (sep 𝓤 (S l) (S r)) (snd∗ 𝓤 (sem 𝓛 (lent_at N p n κ)) (sep 𝓤 (S l) (S r))) (fst∗ 𝓤 (S l) (S r))

  pub shows_right : (t : Tree) → ent 𝓤 (S t) (S (right_of t))
  shows_right Leaf = id⊢ 𝓤 (S Leaf)
  shows_right (Fork p l n r) = via 𝓤 (sep 𝓤 (S l) (S r)) (snd∗ 𝓤 (sem 𝓛 (lent_at N p n κ)) (sep 𝓤 (S l) (S r))) (snd∗ 𝓤 (S l) (S r))

  either : (t s u : Tree) (b : Bool) → ent 𝓤 (S t) (S s) → ent 𝓤 (S t) (S u) → ent 𝓤 (S t) (S (cond b s u))
  either t s u true f g = f
  either t s u false f g = g

  further : (t s u : Tree) → ent 𝓤 (S t) (S s) → ent 𝓤 (S t) (S u) → ent 𝓤 (S t) (S (further_of s u))
  further t s u f g = either t u s (ends_before s u) g f

  pub shows_best : (t : Tree) → ent 𝓤 (S t) (S (best_of t))
  shows_best Leaf = id⊢ 𝓤 (S Leaf)
  shows_best (Fork p l n r) =
      let t = Fork p l n r in
      further t (further_of t (best_of l)) (best_of r)
      (further t t (best_of l) (id⊢ 𝓤 (S t)) (via 𝓤 (S l) (shows_left t) (shows_best l)))
      (via 𝓤 (S r) (shows_right t) (shows_best r))

  pub shows_node : (t : Tree) (p : Ptr) (l : Tree) (n : Node) (r : Tree) → t ≡ Fork p l n r → ent 𝓤 (sem 𝓛 (tree_lent t κ)) (sem 𝓛 (lent_at N p n κ))
  shows_node t p l n r e =
      let L = sem 𝓛 (tree_lent l κ) in let R = sem 𝓛 (tree_lent r κ) in
      via 𝓤 (sem 𝓛 (tree_lent (Fork p l n r) κ)) (same (Fork p l n r) t (sym e)) (fst∗ 𝓤 (sem 𝓛 (lent_at N p n κ)) (sep 𝓤 L R))
