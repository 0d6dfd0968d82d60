-- A search by the sorted list of the tree.
use Rattle.std.proofs.Common.{◌≡◌, suc, ℕ, Bool, true, false, not, ◌&&◌, cond, List, [], ◌∷◌, ◌++◌, length, refl, sym, ap, ◌∙◌, arith, length-append, Less, Equal, Greater}
use Rattle.std.specs.Prelude.{map, filter, ◌==◌}
use Rattle.std.specs.Cmp.{unsigned_ties}
use Rattle.std.specs.Cmp.Lexicographic.{slice_cmp}
use Rattle.std.specs.Ordering.{nat_cmp, is_lt, is_eq, is_ge, ordering_then, ordering_reverse}
use Rattle.std.specs.declared.cmp.Ordering.{Ordering}
use Rattle.std.proofs.lemmas.Cmp.{nat_eq_equiv}
use Rattle.std.proofs.lemmas.List.{map-append}
use Rattle.std.proofs.lemmas.List.Elements.{filter-append}
use Rattle.cv_keys.specs.Intervals.{contains}
use Rattle.cv_keys.specs.declared.interval.Interval.{Interval}
use Rattle.range_tree.specs.declared.nodes.memory.Node.{Node}
use Rattle.range_tree.specs.Points.{Point, point_cmp, point_lt, low, end}
use Rattle.range_tree.specs.Tree.{Tree, Leaf, Fork}
use Rattle.range_tree.specs.Shape.{height, size, IsBalanced, hits, here, visits, AllStart, IsCut}
use Rattle.range_tree.specs.Search.{starts_at, reaches_past, owners, AllStartAt, IsCutAt}
use Rattle.range_tree.specs.Avl.{owned, listed}
use Rattle.range_tree.specs.Ranges.{Owned, owned_lt, AllAfter, IsInOrder, owners_at, IsFew}
use Rattle.range_tree.proofs.Bounds.{fib_height, visits_bound}
use Rattle.range_tree.proofs.Inserted.{sorted_front, sorted_back}
use Rattle.range_tree.proofs.Orders.{total, lt_cotrans}

-- the comparison with an interval's table, index, low end and high end
between : (a b c d : Ordering) → (not (is_lt (ordering_then (ordering_then a b) c)) && is_lt (ordering_then (ordering_then a b) d)) ≡ ((is_eq a && is_eq b) && (is_ge c && is_lt d))
between Less b c d = refl
between Greater b c d = refl
between Equal Less c d = refl
between Equal Greater c d = refl
between Equal Equal Less d = refl
between Equal Equal Equal d = refl
between Equal Equal Greater d = refl

equal_numbers : (m n : ℕ) → is_eq (nat_cmp m n) ≡ (n == m)
equal_numbers m n = sym (unsigned_ties m n) ∙ nat_eq_equiv.symm m n

-- the interval begins at the point or before it and ends after it just where it contains the key
pub holds : (x : Point) (i : Interval) → (not (point_lt x (low i)) && point_lt x (end i)) ≡ contains i x.0 x.1 x.2
holds x i =
    between (nat_cmp x.0 i.table) (nat_cmp x.1 i.index) (slice_cmp nat_cmp x.2 i.lo) (slice_cmp nat_cmp x.2 i.hi)
    ∙ (λ k. (equal_numbers x.0 i.table k && equal_numbers x.1 i.index k) && (is_ge (slice_cmp nat_cmp x.2 i.lo) && is_lt (slice_cmp nat_cmp x.2 i.hi)))

back_not_less : (o q w : Ordering) → is_lt (ordering_then (ordering_then o q) w) ≡ true → is_lt (ordering_reverse o) ≡ false
back_not_less Less q w e = refl
back_not_less Equal q w e = refl
back_not_less Greater q w e = cc

-- what comes before begins no later
begins : (i j : Owned) → owned_lt i j ≡ true → point_lt (low j.0) (low i.0) ≡ false
begins i j e = ap is_lt (total.antisymm (low j.0) (low i.0)) ∙ back_not_less (point_cmp (low i.0) (low j.0)) _ _ e

module _ (x : Point) where
  abbrev B : Bool → Owned → Type 0
  B b i = not (point_lt x (low i.0)) ≡ b

  abbrev AllB : Bool → List Owned → Type 0
  AllB b [] = Unit {0}
  AllB b (i ∷ is) = B b i × AllB b is

  flip : (b : Bool) → not b ≡ true → b ≡ false
  flip true e = cc
  flip false e = refl

  -- what comes before a range that begins in time does too
  earlier : (i j : Owned) → owned_lt i j ≡ true → B true j → B true i
  earlier i j e s =
      (elim (point_lt x (low i.0)) as (λ b. point_lt x (low i.0) ≡ b → not b ≡ true) [
        | true ↦ λ f. let g : point_lt x (low j.0) ≡ true = lt_cotrans x (low i.0) (low j.0) f (begins i j e) in let h = flip (point_lt x (low j.0)) s in cc
        | false ↦ λ f. refl
      ]) refl

  later : (i j : Owned) → owned_lt i j ≡ true → B false i → B false j
  later i j e s =
      (elim (not (point_lt x (low j.0))) as (λ b. B b j → b ≡ false) [
        | true ↦ λ f. let g : B true i = earlier i j e f in cc
        | false ↦ λ f. refl
      ]) refl

  all_earlier : (l : List Owned) (k : Owned) (r : List Owned) → IsInOrder (l ++ k ∷ r) → B true k → AllB true l
  all_earlier [] k r s b = tt
  all_earlier (i ∷ l) k r s b = (earlier i k (first i l k r s.0) b, all_earlier l k r s.1 b) where
    first : (i : Owned) (l : List Owned) (k : Owned) (r : List Owned) → AllAfter i (l ++ k ∷ r) → owned_lt i k ≡ true
    first i [] k r a = a.0
    first i (j ∷ l) k r a = first i l k r a.1

  all_after : (k : Owned) (r : List Owned) → AllAfter k r → B false k → AllB false r
  all_after k [] a b = tt
  all_after k (j ∷ r) a b = (later k j a.0 b, all_after k r a.1 b)

  all_later : (l : List Owned) (k : Owned) (r : List Owned) → IsInOrder (l ++ k ∷ r) → B false k → AllB false r
  all_later [] k r s b = all_after k r s.0 b
  all_later (i ∷ l) k r s b = all_later l k r s.1 b

  front : (b : Bool) (l m : List Owned) → AllB b (l ++ m) → AllB b l
  front b [] m a = tt
  front b (i ∷ l) m a = (a.0, front b l m a.1)

  back : (b : Bool) (l m : List Owned) → AllB b (l ++ m) → AllB b m
  back b [] m a = a
  back b (i ∷ l) m a = back b l m a.1

  in_tree : (b : Bool) (t : Tree) → AllB b (listed t) → AllStartAt x b t
  in_tree b Leaf a = tt
  in_tree b (Fork p l n r) a = let c = back b (listed l) (owned n ∷ listed r) a in (c.0, (in_tree b l (front b (listed l) (owned n ∷ listed r) a), in_tree b r c.1))

  pub sorted_cut : (t : Tree) → IsInOrder (listed t) → IsCutAt x t
  sorted_cut Leaf s = tt
  sorted_cut (Fork p l n r) s = (
    (λ e. in_tree true l (all_earlier (listed l) (owned n) (listed r) s e)),
    (λ e. in_tree false r (all_later (listed l) (owned n) (listed r) s e)),
    sorted_cut l (sorted_front (listed l) (owned n ∷ listed r) s),
    sorted_cut r (sorted_back (listed l) (owned n) (listed r) s),
  )

  abbrev S : Node → Bool
  S = starts_at x

  abbrev R : Node → Bool
  R = reaches_past x

  as_start : (t : Tree) → AllStartAt x true t → AllStart S R t
  as_start Leaf a = tt
  as_start (Fork p l n r) a = (a.0, (as_start l a.1.0, as_start r a.1.1))

  as_cut : (t : Tree) → IsCutAt x t → IsCut S R t
  as_cut Leaf c = tt
  as_cut (Fork p l n r) c = ((λ e. as_start l (c.0 e)), (as_cut l c.2, as_cut r c.3))

  abbrev C : Owned → Bool
  C i = contains i.0 x.0 x.1 x.2

  abbrev at : List Owned → List ℕ
  at = owners_at x.0 x.1 x.2

  at_append : (xs ys : List Owned) → at (xs ++ ys) ≡ at xs ++ at ys
  at_append xs ys = ap (map (λ (i : Owned). i.1)) (filter-append C xs ys) ∙ map-append (λ (i : Owned). i.1) (filter C xs) (filter C ys)

  owners_append : (ns ms : List Node) → owners (ns ++ ms) ≡ owners ns ++ owners ms
  owners_append [] ms = refl
  owners_append (n ∷ ns) ms = ap (λ zs. n.owner ∷ zs) (owners_append ns ms)

  pub owners_hit : (t : Tree) → owners (hits S R t) ≡ at (listed t)
  owners_hit Leaf = refl
  owners_hit (Fork p l n r) =
      rw (owners_append (hits S R l) (here S R n ++ hits S R r), owners_append (here S R n) (hits S R r), at_append (listed l) (owned n ∷ listed r), owners_hit l, owners_hit r)
      (ap (λ b. at (listed l) ++ (owners (cond b (n ∷ []) []) ++ at (listed r))) (holds x n.interval)
      ∙ elim (contains n.interval x.0 x.1 x.2) as (λ b. at (listed l) ++ (owners (cond b (n ∷ []) []) ++ at (listed r)) ≡ at (listed l) ++ map (λ (i : Owned). i.1) (cond b (owned n ∷ filter C (listed r)) (filter C (listed r)))) [
        | true ↦ refl
        | false ↦ refl
      ])

  owners_length : (ns : List Node) → length (owners ns) ≡ length ns
  owners_length [] = refl
  owners_length (n ∷ ns) = ap suc (owners_length ns)

  listed_size : (t : Tree) → length (listed t) ≡ size t
  listed_size Leaf = refl
  listed_size (Fork p l n r) = omega (arith, length-append (listed l) (owned n ∷ listed r), listed_size l, listed_size r)

  pub few : (t : Tree) → IsBalanced t → IsInOrder (listed t) → IsFew (length (listed t)) (length (at (listed t))) (visits S R t)
  few t b s =
      let k : length (at (listed t)) ≡ length (hits S R t) = ap length (sym (owners_hit t)) ∙ owners_length (hits S R t) in
      (height t, rw (listed_size t) (fib_height t b), rw k (visits_bound S R t (as_cut t (sorted_cut t s))))
