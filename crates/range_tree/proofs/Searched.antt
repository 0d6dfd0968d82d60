-- What a search may leave out.
use Rattle.std.proofs.Common.{◌≡◌, suc, ◌+◌, Bool, true, false, not, ◌&&◌, ◌||◌, cond, [], ◌∷◌, ◌++◌, Some, refl, sym, ap, ◌∙◌, subst, arith}
use Rattle.std.proofs.lemmas.List.{append-nil}
use Rattle.cv_keys.specs.declared.interval.Interval.{Interval}
use Rattle.range_tree.specs.Points.{Point, point_lt, low, end}
use Rattle.range_tree.proofs.Orders.{lt_trans, lt_cotrans}
use Rattle.range_tree.specs.declared.nodes.memory.Node.{Node}
use Rattle.range_tree.specs.Tree.{Tree, Leaf, Fork, node_of, left_of, right_of}
use Rattle.range_tree.specs.Best.{ends_before, further_of, best_of, LeadsTo, IsLinked}
use Rattle.range_tree.specs.Shape.{some_reaches, here, hits, visits}
use Rattle.range_tree.specs.Search.{interval_of, starts_at, reaches_past, AllStartAt, IsCutAt}

-- the links of the topmost node
pub links_left : (t : Tree) (n : Node) → node_of t ≡ Some n → IsLinked t → LeadsTo n.left (left_of t)
links_left Leaf n e k = cc
links_left (Fork p l m r) n e k = let same : m ≡ n = cc in subst (λ (x : Node). LeadsTo x.left l) same k.0.0

pub links_right : (t : Tree) (n : Node) → node_of t ≡ Some n → IsLinked t → LeadsTo n.right (right_of t)
links_right Leaf n e k = cc
links_right (Fork p l m r) n e k = let same : m ≡ n = cc in subst (λ (x : Node). LeadsTo x.right r) same k.0.1

pub left_linked : (t : Tree) → IsLinked t → IsLinked (left_of t)
left_linked Leaf k = tt
left_linked (Fork p l m r) k = k.1.0

pub right_linked : (t : Tree) → IsLinked t → IsLinked (right_of t)
right_linked Leaf k = tt
right_linked (Fork p l m r) k = k.1.1

module _ (x : Point) where
  abbrev S : Node → Bool
  S = starts_at x

  abbrev R : Node → Bool
  R = reaches_past x

  pub left_cut : (t : Tree) → IsCutAt x t → IsCutAt x (left_of t)
  left_cut Leaf k = tt
  left_cut (Fork p l m r) k = k.2

  pub right_cut : (t : Tree) → IsCutAt x t → IsCutAt x (right_of t)
  right_cut Leaf k = tt
  right_cut (Fork p l m r) k = k.3

  -- whether the topmost node reaches past the point
  abbrev top_reaches : Tree → Bool
  top_reaches Leaf = false
  top_reaches (Fork p l n r) = R n

  further_by : (s t : Tree) (b : Bool) → ends_before s t ≡ b → top_reaches (cond b t s) ≡ (top_reaches s || top_reaches t)
  further_by Leaf Leaf true e = refl
  further_by Leaf Leaf false e = refl
  further_by (Fork q k m u) Leaf b e = elim b as (λ y. ends_before (Fork q k m u) Leaf ≡ y → top_reaches (cond y Leaf (Fork q k m u)) ≡ (R m || false)) [ true ↦ λ f. cc | false ↦ λ f. elim (R m) as (λ y. y ≡ (y || false)) [ true ↦ refl | false ↦ refl ] ] e
  further_by Leaf (Fork p l n r) b e = elim b as (λ y. ends_before Leaf (Fork p l n r) ≡ y → top_reaches (cond y (Fork p l n r) Leaf) ≡ R n) [ true ↦ λ f. refl | false ↦ λ f. cc ] e
  further_by (Fork q k m u) (Fork p l n r) true e =
      (elim (R m) as (λ y. R m ≡ y → R n ≡ (y || R n)) [
        | true ↦ λ f. lt_trans x (end m.interval) (end n.interval) f e
        | false ↦ λ f. refl
      ]) refl
  further_by (Fork q k m u) (Fork p l n r) false e =
      (elim (R n) as (λ y. R n ≡ y → R m ≡ (R m || y)) [
        | true ↦ λ f. let g : R m ≡ true = lt_cotrans x (end n.interval) (end m.interval) f e in rw g refl
        | false ↦ λ f. elim (R m) as (λ y. y ≡ (y || false)) [ true ↦ refl | false ↦ refl ]
      ]) refl

  or_again : (a b c : Bool) → ((a || b) || c) ≡ (a || (b || c))
  or_again true b c = refl
  or_again false b c = refl

  -- the node with the greatest end reaches past the point where any does
  best_reaches : (t : Tree) → top_reaches (best_of t) ≡ some_reaches S R t
  best_reaches Leaf = refl
  best_reaches (Fork p l n r) =
      let t = Fork p l n r in
      let one = further_by t (best_of l) (ends_before t (best_of l)) refl in
      let two = further_by (further_of t (best_of l)) (best_of r) (ends_before (further_of t (best_of l)) (best_of r)) refl in
      rw (two, one, best_reaches l, best_reaches r) (or_again (R n) (some_reaches S R l) (some_reaches S R r))

  pub end_tells : (t : Tree) (i : Interval) → interval_of (best_of t) ≡ Some i → some_reaches S R t ≡ point_lt x (end i)
  end_tells t i e =
      (elim (best_of t) as (λ b. best_of t ≡ b → interval_of b ≡ Some i → some_reaches S R t ≡ point_lt x (end i)) [
        | Leaf ↦ λ f g. cc
        | Fork p l n r ↦ λ f g. let same : n.interval ≡ i = cc in sym (best_reaches t) ∙ ap top_reaches f ∙ ap (λ j. point_lt x (end j)) same
      ]) refl e

  or_none : (a b : Bool) → (a || b) ≡ false → (a ≡ false) × (b ≡ false)
  or_none true b e = cc
  or_none false b e = (refl, e)

  and_false : (a : Bool) → (a && false) ≡ false
  and_false true = refl
  and_false false = refl

  -- a tree of which nothing reaches past the point
  none_hit : (t : Tree) → some_reaches S R t ≡ false → hits S R t ≡ []
  none_hit Leaf e = refl
  none_hit (Fork p l n r) e =
      let a = or_none (R n) (some_reaches S R l || some_reaches S R r) e in let b = or_none (some_reaches S R l) (some_reaches S R r) a.1 in
      let h : (S n && R n) ≡ false = rw a.0 (and_false (S n)) in
      rw (none_hit l b.0, none_hit r b.1, h) refl

  none_starts : (t : Tree) → AllStartAt x false t → hits S R t ≡ []
  none_starts Leaf e = refl
  none_starts (Fork p l n r) e =
      let h : (S n && R n) ≡ false = ap (λ y. y && R n) e.0 in
      rw (none_starts l e.1.0, none_starts r e.1.1, h) refl

  pub over : (t : Tree) (n : Node) → node_of t ≡ Some n → some_reaches S R t ≡ false → (hits S R t ≡ []) × (visits S R t ≡ 1)
  over Leaf n e f = cc
  over (Fork p l m r) n e f = (none_hit (Fork p l m r) f, ap (λ y. suc (cond y (visits S R l + cond (S m) (visits S R r) 0) 0)) f)

  pub before : (t : Tree) (n : Node) → node_of t ≡ Some n → some_reaches S R t ≡ true → S n ≡ false → IsCutAt x t → (hits S R t ≡ hits S R (left_of t)) × (visits S R t ≡ suc (visits S R (left_of t)))
  before Leaf n e f g k = cc
  before (Fork p l m r) n e f g k =
      let same : n ≡ m = cc in let at : S m ≡ false = subst (λ y. S y ≡ false) same g in
      let h : (S m && R m) ≡ false = ap (λ y. y && R m) at in
      let a : here S R m ++ hits S R r ≡ [] = rw (none_starts r (k.1 at), h) refl in
      let v : visits S R l + cond (S m) (visits S R r) 0 ≡ visits S R l = rw at (omega arith) in
      (rw a (append-nil (hits S R l)), ap (λ y. suc (cond y (visits S R l + cond (S m) (visits S R r) 0) 0)) f ∙ ap suc v)

  pub both_ways : (t : Tree) (n : Node) → node_of t ≡ Some n → some_reaches S R t ≡ true → S n ≡ true → (hits S R t ≡ hits S R (left_of t) ++ (cond (R n) (n ∷ []) [] ++ hits S R (right_of t))) × (visits S R t ≡ suc (visits S R (left_of t) + visits S R (right_of t)))
  both_ways Leaf n e f g = cc
  both_ways (Fork p l m r) n e f g =
      let same : n ≡ m = cc in let at : S m ≡ true = subst (λ y. S y ≡ true) same g in
      let h : (S m && R m) ≡ R m = ap (λ y. y && R m) at in
      let a : here S R m ≡ cond (R n) (n ∷ []) [] = rw h (ap (λ y. cond (R y) (y ∷ []) []) (sym same)) in
      let v : visits S R l + cond (S m) (visits S R r) 0 ≡ visits S R l + visits S R r = rw at refl in
      (ap (λ ys. hits S R l ++ (ys ++ hits S R r)) a, ap (λ y. suc (cond y (visits S R l + cond (S m) (visits S R r) 0) 0)) f ∙ ap suc v)

  -- what the search does, by what it learned
  pub stop : (t : Tree) (i : Interval) (n : Node) → interval_of (best_of t) ≡ Some i → node_of t ≡ Some n → point_lt x (end i) ≡ false → (hits S R t ≡ []) × (visits S R t ≡ 1)
  stop t i n e f g = over t n f (end_tells t i e ∙ g)

  pub turn_back : (t : Tree) (i : Interval) (n : Node) → interval_of (best_of t) ≡ Some i → node_of t ≡ Some n → point_lt x (end i) ≡ true → point_lt x (low n.interval) ≡ true → IsCutAt x t
      → (hits S R t ≡ hits S R (left_of t)) × (visits S R t ≡ suc (visits S R (left_of t)))
  turn_back t i n e f g h k = before t n f (end_tells t i e ∙ g) (ap not h) k

  pub go_on : (t : Tree) (i : Interval) (n : Node) → interval_of (best_of t) ≡ Some i → node_of t ≡ Some n → point_lt x (end i) ≡ true → point_lt x (low n.interval) ≡ false
      → (hits S R t ≡ hits S R (left_of t) ++ (cond (R n) (n ∷ []) [] ++ hits S R (right_of t))) × (visits S R t ≡ suc (visits S R (left_of t) + visits S R (right_of t)))
  go_on t i n e f g h = both_ways t n f (end_tells t i e ∙ g) (ap not h)
