-- The height of a balanced tree, and how many nodes a search looks at.
use Rattle.std.proofs.Common.{◌≡◌, ℕ, zero, suc, ◌+◌, ◌*◌, ◌≤◌, Bool, true, false, cond, ◌++◌, length, refl, sym, subst, arith, length-append}
use Rattle.std.specs.Prelude.{max}
use Rattle.std.proofs.Math.Nat.{mul-le-mul_left, le-max_left, le-max_right, max-eq_left, max-eq_right, mul-suc, add-mul}
use Rattle.std.proofs.lemmas.Bool.{cases_lt}
use mathlib.Core.Logic.{inl, inr}
use Rattle.range_tree.specs.declared.nodes.memory.Node.{Node}
use Rattle.range_tree.specs.Ranges.{fib}
use Rattle.range_tree.specs.Tree.{Tree, Leaf, Fork}
use Rattle.range_tree.specs.Shape.{height, size, IsBalanced, some_reaches, here, hits, visits, AllStart, IsCut}

fib_rises : (n : ℕ) → fib n ≤ fib (suc n)
fib_rises zero = omega arith
fib_rises (suc n) = omega arith

-- two trees whose heights a and b differ by at most one have room for that of the tree over them
fib_over : (a b x y : ℕ) → a ≤ b + 1 → b ≤ a + 1 → fib (suc a) ≤ x + 1 → fib (suc b) ≤ y + 1 → fib (suc (suc (max a b))) ≤ (x + y + 1) + 1
fib_over a b x y near close p q =
    elim (cases_lt a b) [
      | inl less ↦
          let e : b ≡ suc a = omega arith in
          let big : max a b ≡ b = max-eq_right (omega arith) in
          let two : fib (suc (suc b)) ≡ fib (suc b) + fib b = refl in
          let low : fib b ≤ x + 1 = subst (λ (k : ℕ). fib k ≤ x + 1) (sym e) p in
          subst (λ (k : ℕ). fib (suc (suc k)) ≤ (x + y + 1) + 1) (sym big) (omega (arith, two, low, q))
      | inr more ↦
          let big : max a b ≡ a = max-eq_left more in
          let two : fib (suc (suc a)) ≡ fib (suc a) + fib a = refl in
          let low : fib a ≤ y + 1 = elim (cases_lt b a) [
            | inl less ↦ let e : a ≡ suc b = omega arith in subst (λ (k : ℕ). fib k ≤ y + 1) (sym e) q
            | inr same ↦ let e : a ≡ b = omega arith in let up = fib_rises b in subst (λ (k : ℕ). fib k ≤ y + 1) (sym e) (omega (arith, up, q))
          ] in
          subst (λ (k : ℕ). fib (suc (suc k)) ≤ (x + y + 1) + 1) (sym big) (omega (arith, two, low, p))
    ]

pub fib_height : (t : Tree) → IsBalanced t → fib (suc (height t)) ≤ size t + 1
fib_height Leaf b = omega arith
fib_height (Fork p l n r) b = fib_over (height l) (height r) (size l) (size r) b.1 b.2 (fib_height l b.0.0) (fib_height r b.0.1)

-- both sides of a node, with i hits on the left, j on the right and d at the node, of heights a and b
both_sides : (i d j a b v w : ℕ) → v ≤ 2 * (i * a) + 1 → w ≤ 2 * (j * b) + 1 → 1 ≤ i + (d + j) → suc (v + w) ≤ 2 * ((i + (d + j)) * suc (max a b)) + 1
both_sides i d j a b v w p q some =
    let m = max a b in
    let e1 : (i + (d + j)) * suc m ≡ (i + (d + j)) * m + (i + (d + j)) = mul-suc (i + (d + j)) m in
    let e2 : (i + (d + j)) * m ≡ i * m + (d + j) * m = add-mul i (d + j) m in
    let e3 : (d + j) * m ≡ d * m + j * m = add-mul d j m in
    let f : i * a ≤ i * m = mul-le-mul_left i (le-max_left a b) in
    let g : j * b ≤ j * m = mul-le-mul_left j (le-max_right a b) in
    omega (arith, e1, e2, e3, f, g)

-- the same, where more may lie to the right of the point
left_full : (i d j a b v w : ℕ) → v ≤ 2 * (i * a) + 1 → w ≤ 2 * ((j + 1) * b) + 1 → suc (v + w) ≤ 2 * ((i + (d + j) + 1) * suc (max a b)) + 1
left_full i d j a b v w p q =
    let m = max a b in
    let e1 : (i + (d + j) + 1) * suc m ≡ (i + (d + j) + 1) * m + (i + (d + j) + 1) = mul-suc (i + (d + j) + 1) m in
    let e2 : (i + (d + j) + 1) * m ≡ (i + (d + j)) * m + 1 * m = add-mul (i + (d + j)) 1 m in
    let e3 : (i + (d + j)) * m ≡ i * m + (d + j) * m = add-mul i (d + j) m in
    let e4 : (d + j) * m ≡ d * m + j * m = add-mul d j m in
    let e5 : (j + 1) * m ≡ j * m + 1 * m = add-mul j 1 m in
    let f : i * a ≤ i * m = mul-le-mul_left i (le-max_left a b) in
    let g : (j + 1) * b ≤ (j + 1) * m = mul-le-mul_left (j + 1) (le-max_right a b) in
    omega (arith, e1, e2, e3, e4, e5, f, g)

only_left : (i d j a b v : ℕ) → v ≤ 2 * ((i + 1) * a) + 1 → suc v ≤ 2 * ((i + (d + j) + 1) * suc (max a b)) + 1
only_left i d j a b v p =
    let m = max a b in
    let e1 : (i + (d + j) + 1) * suc m ≡ (i + (d + j) + 1) * m + (i + (d + j) + 1) = mul-suc (i + (d + j) + 1) m in
    let e2 : (i + (d + j) + 1) * m ≡ (i + (d + j)) * m + 1 * m = add-mul (i + (d + j)) 1 m in
    let e3 : (i + (d + j)) * m ≡ i * m + (d + j) * m = add-mul i (d + j) m in
    let e5 : (i + 1) * m ≡ i * m + 1 * m = add-mul i 1 m in
    let g : (i + 1) * a ≤ (i + 1) * m = mul-le-mul_left (i + 1) (le-max_left a b) in
    omega (arith, e1, e2, e3, e5, g)

module _ (starts reaches : Node → Bool) where
  abbrev H : Tree → ℕ
  H t = length (hits starts reaches t)

  abbrev D : Node → ℕ
  D n = length (here starts reaches n)

  counted : (p : Rattle.range_tree.specs.Tree.Ptr) (l : Tree) (n : Node) (r : Tree) → H (Fork p l n r) ≡ H l + (D n + H r)
  counted p l n r = omega (arith, length-append (hits starts reaches l) (here starts reaches n ++ hits starts reaches r), length-append (here starts reaches n) (hits starts reaches r))

  -- where all of a tree starts and some of it reaches past the point, the search hits something
  hit_among : (t : Tree) → AllStart starts reaches t → some_reaches starts reaches t ≡ true → 1 ≤ H t
  hit_among Leaf s e = cc
  hit_among (Fork p l n r) s e =
      let c = counted p l n r in
      (elim (reaches n) as (λ (y : Bool). reaches n ≡ y → 1 ≤ H (Fork p l n r)) [
        | true ↦ λ at. let one : D n ≡ 1 = rw (s.0, at) refl in omega (arith, c, one)
        | false ↦ λ at. (elim (some_reaches starts reaches l) as (λ (y : Bool). some_reaches starts reaches l ≡ y → 1 ≤ H (Fork p l n r)) [
          | true ↦ λ on_left. omega (arith, c, hit_among l s.1.0 on_left)
          | false ↦ λ off. let on_right : some_reaches starts reaches r ≡ true = rw (at, off) at e in omega (arith, c, hit_among r s.1.1 on_right)
        ]) refl
      ]) refl

  abbrev V : Tree → ℕ
  V = visits starts reaches

  all_start : (t : Tree) → AllStart starts reaches t → V t ≤ 2 * (H t * height t) + 1
  all_start Leaf s = omega arith
  all_start (Fork p l n r) s =
      (elim (some_reaches starts reaches (Fork p l n r)) as (λ (y : Bool). some_reaches starts reaches (Fork p l n r) ≡ y → suc (cond y (V l + cond (starts n) (V r) 0) 0) ≤ 2 * (H (Fork p l n r) * height (Fork p l n r)) + 1) [
        | true ↦ λ e. let c = counted p l n r in let some = hit_among (Fork p l n r) s e in
            let b = both_sides (H l) (D n) (H r) (height l) (height r) (V l) (V r) (all_start l s.1.0) (all_start r s.1.1) (rw c at some) in
            let v : cond (starts n) (V r) 0 ≡ V r = rw s.0 refl in
            rw (c, v) b
        | false ↦ λ e. omega arith
      ]) refl

  pub visits_bound : (t : Tree) → IsCut starts reaches t → V t ≤ 2 * ((H t + 1) * height t) + 1
  visits_bound Leaf s = omega arith
  visits_bound (Fork p l n r) s =
      let c = counted p l n r in
      (elim (some_reaches starts reaches (Fork p l n r)) as (λ (y : Bool). suc (cond y (V l + cond (starts n) (V r) 0) 0) ≤ 2 * ((H (Fork p l n r) + 1) * height (Fork p l n r)) + 1) [
        | true ↦ (elim (starts n) as (λ (y : Bool). starts n ≡ y → suc (V l + cond y (V r) 0) ≤ 2 * ((H (Fork p l n r) + 1) * height (Fork p l n r)) + 1) [
          | true ↦ λ e. rw c (left_full (H l) (D n) (H r) (height l) (height r) (V l) (V r) (all_start l (s.0 e)) (visits_bound r s.1.1))
          | false ↦ λ e. let o = only_left (H l) (D n) (H r) (height l) (height r) (V l) (visits_bound l s.1.0) in rw c (omega (arith, o))
        ]) refl
        | false ↦ omega arith
      ])
