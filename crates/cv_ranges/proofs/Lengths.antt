-- How long lists are after a change.
use Rattle.std.proofs.Common.{◌≡◌, suc, ◌+◌, ◌≤◌, true, false, cond, List, [], ◌∷◌, length, refl, ap, arith}
use Rattle.std.specs.Ordering.{is_eq}
use Rattle.range_tree.specs.Ranges.{Owned, owned_cmp, owned_lt, inserted, removed}

pub length_inserted : (x : Owned) (xs : List Owned) → length (inserted x xs) ≡ length xs + 1
length_inserted x [] = refl
length_inserted x (y ∷ ys) =
    let i = length_inserted x ys in
    elim (owned_lt x y) as (λ b. length (cond b (x ∷ y ∷ ys) (y ∷ inserted x ys)) ≡ suc (length ys) + 1) [ true ↦ omega arith | false ↦ omega (arith, i) ]

pub length_removed : (x : Owned) (xs : List Owned) → length (removed x xs) ≤ length xs
length_removed x [] = omega arith
length_removed x (y ∷ ys) =
    let i = length_removed x ys in
    elim (is_eq (owned_cmp x y)) as (λ b. length (cond b ys (y ∷ removed x ys)) ≤ suc (length ys)) [ true ↦ omega arith | false ↦ omega (arith, i) ]

-- one that is put in for an equal one, or as a new one
pub length_added : (n m : Owned) (old mid new : List Owned) → mid ≡ removed n old → new ≡ inserted m mid → length new ≤ length old + 1
length_added n m old mid new out in' = omega (arith, ap length out, ap length in', length_removed n old, length_inserted m mid)
