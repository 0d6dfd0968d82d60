-- Where a node goes in the list of a tree.
use Rattle.std.proofs.Common.{◌≡◌, ◌≢◌, Less, Equal, Greater, ℕ, true, false, cond, List, [], ◌∷◌, ◌++◌, refl, ap, suc, ◌+◌, ◌≤◌, max, arith}
use Rattle.std.specs.Ordering.{is_lt}
use Rattle.std.specs.declared.cmp.Ordering.{Ordering}
use Rattle.std.proofs.lemmas.Bool.{cases_lt}
use mathlib.Core.Logic.{inl, inr}
use Rattle.range_tree.specs.Avl.{SettlesAt}
use Rattle.range_tree.specs.Ranges.{Owned, owned_lt, AllAfter, IsInOrder, inserted}
use Rattle.range_tree.proofs.Orders.{owned_trans}

after_middle : (x : Owned) (l : List Owned) (k : Owned) (r : List Owned) → AllAfter x (l ++ k ∷ r) → owned_lt x k ≡ true
after_middle x [] k r a = a.0
after_middle x (y ∷ l) k r a = after_middle x l k r a.1

after_front : (x : Owned) (l m : List Owned) → AllAfter x (l ++ m) → AllAfter x l
after_front x [] m a = tt
after_front x (y ∷ l) m a = (a.0, after_front x l m a.1)

pub sorted_front : (l m : List Owned) → IsInOrder (l ++ m) → IsInOrder l
sorted_front [] m s = tt
sorted_front (x ∷ l) m s = (after_front x l m s.0, sorted_front l m s.1)

pub sorted_back : (l : List Owned) (k : Owned) (r : List Owned) → IsInOrder (l ++ k ∷ r) → IsInOrder r
sorted_back [] k r s = s.1
sorted_back (x ∷ l) k r s = sorted_back l k r s.1

pub inserted_left : (x : Owned) (l : List Owned) (k : Owned) (r : List Owned) → owned_lt x k ≡ true → inserted x (l ++ k ∷ r) ≡ inserted x l ++ k ∷ r
inserted_left x [] k r e = ap (λ y. cond y (x ∷ k ∷ r) (k ∷ inserted x r)) e
inserted_left x (y ∷ l) k r e =
    elim (owned_lt x y) as (λ b. cond b (x ∷ y ∷ l ++ k ∷ r) (y ∷ inserted x (l ++ k ∷ r)) ≡ cond b (x ∷ y ∷ l) (y ∷ inserted x l) ++ k ∷ r) [
      | true ↦ refl
      | false ↦ ap (λ ys. y ∷ ys) (inserted_left x l k r e)
    ]

pub inserted_right : (x : Owned) (l : List Owned) (k : Owned) (r : List Owned) → IsInOrder (l ++ k ∷ r) → owned_lt x k ≡ false → inserted x (l ++ k ∷ r) ≡ l ++ k ∷ inserted x r
inserted_right x [] k r s e = ap (λ y. cond y (x ∷ k ∷ r) (k ∷ inserted x r)) e
inserted_right x (y ∷ l) k r s e =
    (elim (owned_lt x y) as (λ b. owned_lt x y ≡ b → cond b (x ∷ y ∷ l ++ k ∷ r) (y ∷ inserted x (l ++ k ∷ r)) ≡ y ∷ l ++ k ∷ inserted x r) [
      | true ↦ λ f. let g : owned_lt x k ≡ true = owned_trans x y k f (after_middle y l k r s.0) in cc
      | false ↦ λ f. ap (λ ys. y ∷ ys) (inserted_right x l k r s.1 e)
    ]) refl

pub not_less : (o : Ordering) → o ≢ Less → is_lt o ≡ false
not_less Less n = absurd (n refl)
not_less Equal n = refl
not_less Greater n = refl

-- a tree does not fall where one side rises by at most one
pub settles_right : (l r s h : ℕ) → r ≤ s → s ≤ r + 1 → l ≤ r + 1 → r ≤ l + 1 → SettlesAt l s h → suc (max l r) ≤ h
settles_right l r s h a b p q e =
    elim (cases_lt r s) [
      | inl more ↦ elim (cases_lt r l) [
        | inl high ↦ let k : h ≡ suc (max l s) = e.2 (omega arith) (omega arith) in omega (arith, k)
        | inr low ↦ omega (arith, e.0)
      ]
      | inr same ↦ let k : h ≡ suc (max l s) = e.2 (omega arith) (omega arith) in omega (arith, k)
    ]
