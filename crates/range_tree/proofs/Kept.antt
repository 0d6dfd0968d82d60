-- The list of a tree stays sorted where a node comes in.
use Rattle.std.proofs.Common.{◌≡◌, ◌≢◌, suc, ◌≤◌, true, false, cond, List, [], ◌∷◌, length, refl, ap, ◌∙◌, arith, length-append, Less, Equal, Greater}
use Rattle.std.specs.Ordering.{is_lt, ordering_then, ordering_reverse, nat_cmp}
use Rattle.std.specs.Cmp.Lexicographic.{slice_cmp}
use Rattle.std.specs.declared.cmp.Ordering.{Ordering}
use Rattle.std.specs.FinMap.{nat_cmp-IsAntisymmetric, slice_cmp-IsAntisymmetric}
use Rattle.range_tree.specs.Points.{point_cmp, low}
use Rattle.range_tree.specs.Tree.{Tree, Leaf, Fork}
use Rattle.range_tree.specs.Shape.{height}
use Rattle.range_tree.specs.Avl.{owned, listed}
use Rattle.range_tree.specs.Ranges.{Owned, owned_cmp, owned_lt, AllAfter, IsInOrder, inserted, IsAbsent}
use Rattle.range_tree.proofs.Orders.{owned_total, owned_trans}

both_equal : (o q : Ordering) → ordering_then o q ≡ Equal → (o ≡ Equal) × (q ≡ Equal)
both_equal Less q e = cc
both_equal Equal q e = (refl, e)
both_equal Greater q e = cc

-- what is neither before nor after is the same
pub owned_same : (x y : Owned) → owned_cmp x y ≡ Equal → x ≡ y
owned_same x y e =
    let a = both_equal _ (nat_cmp x.1 y.1) e in let b = both_equal (point_cmp (low x.0) (low y.0)) _ a.0 in
    let c = both_equal _ (slice_cmp nat_cmp x.0.lo y.0.lo) b.0 in let d = both_equal (nat_cmp x.0.table y.0.table) _ c.0 in
    let t = nat_cmp-IsAntisymmetric x.0.table y.0.table d.0 in let k = nat_cmp-IsAntisymmetric x.0.index y.0.index d.1 in
    let l = slice_cmp-IsAntisymmetric nat_cmp-IsAntisymmetric x.0.lo y.0.lo c.1 in let h = slice_cmp-IsAntisymmetric nat_cmp-IsAntisymmetric x.0.hi y.0.hi b.1 in
    let o = nat_cmp-IsAntisymmetric x.1 y.1 a.1 in
    λ i. (record { table = t i; index = k i; lo = l i; hi = h i }, o i)

other_way : (x y : Owned) (o : Ordering) → owned_cmp x y ≡ o → is_lt o ≡ false → x ≢ y → owned_lt y x ≡ true
other_way x y Less e f n = cc
other_way x y Equal e f n = absurd (n (owned_same x y e))
other_way x y Greater e f n = ap is_lt (owned_total.antisymm y x ∙ ap ordering_reverse e)

after_all : (x y : Owned) (ys : List Owned) → owned_lt x y ≡ true → AllAfter y ys → AllAfter x ys
after_all x y [] e a = tt
after_all x y (z ∷ zs) e a = (owned_trans x y z e a.0, after_all x y zs e a.1)

after_inserted : (y x : Owned) (xs : List Owned) → owned_lt y x ≡ true → AllAfter y xs → AllAfter y (inserted x xs)
after_inserted y x [] e a = (e, tt)
after_inserted y x (z ∷ zs) e a =
    elim (owned_lt x z) as (λ b. AllAfter y (cond b (x ∷ z ∷ zs) (z ∷ inserted x zs))) [
      | true ↦ (e, a)
      | false ↦ (a.0, after_inserted y x zs e a.1)
    ]

pub sorted_inserted : (x : Owned) (xs : List Owned) → IsAbsent x xs → IsInOrder xs → IsInOrder (inserted x xs)
sorted_inserted x [] n s = (tt, tt)
sorted_inserted x (y ∷ ys) n s =
    (elim (owned_lt x y) as (λ b. owned_lt x y ≡ b → IsInOrder (cond b (x ∷ y ∷ ys) (y ∷ inserted x ys))) [
      | true ↦ λ e. ((e, after_all x y ys e s.0), s)
      | false ↦ λ e. (after_inserted y x ys (other_way x y (owned_cmp x y) refl e n.0) s.0, sorted_inserted x ys n.1 s.1)
    ]) refl

pub length_inserted : (x : Owned) (xs : List Owned) → length (inserted x xs) ≡ suc (length xs)
length_inserted x [] = refl
length_inserted x (y ∷ ys) =
    elim (owned_lt x y) as (λ b. length (cond b (x ∷ y ∷ ys) (y ∷ inserted x ys)) ≡ suc (suc (length ys))) [
      | true ↦ refl
      | false ↦ ap suc (length_inserted x ys)
    ]

pub height_listed : (t : Tree) → height t ≤ length (listed t)
height_listed Leaf = omega arith
height_listed (Fork p l n r) = omega (arith, length-append (listed l) (owned n ∷ listed r), height_listed l, height_listed r)
