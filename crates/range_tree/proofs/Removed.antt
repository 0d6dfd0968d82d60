-- The list of a tree where a node goes out.
use Rattle.std.proofs.Common.{◌≡◌, suc, ◌+◌, true, false, Bool, ◌||◌, cond, List, [], ◌∷◌, ◌++◌, length, arith, refl, sym, ap, ◌∙◌, subst, Less, Equal, Greater}
use mathlib.Core.Bool.{true≢false}
use Rattle.std.specs.Prelude.{Contains}
use Rattle.std.specs.Ordering.{is_lt, is_eq, ordering_reverse}
use Rattle.std.specs.declared.cmp.Ordering.{Ordering}
use Rattle.std.proofs.lemmas.List.Elements.{Contains-append_right}
use Rattle.range_tree.specs.Ranges.{Owned, owned_cmp, owned_lt, AllAfter, IsInOrder, IsAbsent, removed, is_there}
use Rattle.range_tree.proofs.Orders.{is_less, owned_total, owned_trans}
use Rattle.range_tree.proofs.Kept.{owned_same}

abbrev NoneSame : Owned → List Owned → Type 0
NoneSame x [] = Unit {0}
NoneSame x (y ∷ ys) = (is_eq (owned_cmp x y) ≡ false) × NoneSame x ys

less_apart : (x y : Owned) → owned_lt x y ≡ true → is_eq (owned_cmp x y) ≡ false
less_apart x y e = ap is_eq (is_less (owned_cmp x y) e)

more_apart : (x y : Owned) → owned_lt y x ≡ true → is_eq (owned_cmp x y) ≡ false
more_apart x y e = ap is_eq (owned_total.antisymm x y ∙ ap ordering_reverse (is_less (owned_cmp y x) e))

none_there : (x : Owned) (ys : List Owned) → NoneSame x ys → (removed x ys ≡ ys) × (is_there x ys ≡ false)
none_there x [] n = (refl, refl)
none_there x (y ∷ ys) n = let k = none_there x ys n.1 in (rw n.0 (ap (λ zs. y ∷ zs) k.0), rw n.0 k.1)

skipped : (x : Owned) (l m : List Owned) → NoneSame x l → (removed x (l ++ m) ≡ l ++ removed x m) × (is_there x (l ++ m) ≡ is_there x m)
skipped x [] m n = (refl, refl)
skipped x (y ∷ l) m n = let k = skipped x l m n.1 in (rw n.0 (ap (λ zs. y ∷ zs) k.0), rw n.0 k.1)

none_after : (x k : Owned) (r : List Owned) → owned_lt x k ≡ true → AllAfter k r → NoneSame x r
none_after x k [] e a = tt
none_after x k (y ∷ r) e a = (less_apart x y (owned_trans x k y e a.0), none_after x k r e a.1)

after_middle : (k : Owned) (l : List Owned) (m : Owned) (r : List Owned) → AllAfter k (l ++ m ∷ r) → owned_lt k m ≡ true
after_middle k [] m r a = a.0
after_middle k (y ∷ l) m r a = after_middle k l m r a.1

none_before : (x : Owned) (l : List Owned) (k : Owned) (r : List Owned) → IsInOrder (l ++ k ∷ r) → ((y : Owned) → owned_lt y k ≡ true → owned_lt y x ≡ true) → NoneSame x l
none_before x [] k r s f = tt
none_before x (y ∷ l) k r s f = (more_apart x y (f y (after_middle y l k r s.0)), none_before x l k r s.1 f)

after_top : (l : List Owned) (k : Owned) (r : List Owned) → IsInOrder (l ++ k ∷ r) → AllAfter k r
after_top [] k r s = s.0
after_top (y ∷ l) k r s = after_top l k r s.1

pub removed_left : (x : Owned) (l : List Owned) (k : Owned) (r : List Owned) → IsInOrder (l ++ k ∷ r) → owned_cmp x k ≡ Less → (removed x (l ++ k ∷ r) ≡ removed x l ++ k ∷ r) × (is_there x (l ++ k ∷ r) ≡ is_there x l)
removed_left x [] k r s e = let a = ap is_eq e in let n = none_there x r (none_after x k r (ap is_lt e) s.0) in (rw a (ap (λ zs. k ∷ zs) n.0), rw a n.1)
removed_left x (y ∷ l) k r s e =
    let i = removed_left x l k r s.1 e in
    elim (is_eq (owned_cmp x y)) as (λ b. (cond b (l ++ k ∷ r) (y ∷ removed x (l ++ k ∷ r)) ≡ cond b l (y ∷ removed x l) ++ k ∷ r) × ((b || is_there x (l ++ k ∷ r)) ≡ (b || is_there x l))) [
      | true ↦ (refl, refl)
      | false ↦ (ap (λ zs. y ∷ zs) i.0, i.1)
    ]

pub removed_right : (x : Owned) (l : List Owned) (k : Owned) (r : List Owned) → IsInOrder (l ++ k ∷ r) → owned_cmp x k ≡ Greater → (removed x (l ++ k ∷ r) ≡ l ++ k ∷ removed x r) × (is_there x (l ++ k ∷ r) ≡ is_there x r)
removed_right x l k r s e =
    let up : owned_lt k x ≡ true = ap is_lt (owned_total.antisymm k x ∙ ap ordering_reverse e) in
    let n = skipped x l (k ∷ r) (none_before x l k r s (λ y f. owned_trans y k x f up)) in let a : is_eq (owned_cmp x k) ≡ false = ap is_eq e in
    (n.0 ∙ ap (λ b. l ++ cond b r (k ∷ removed x r)) a, n.1 ∙ ap (λ b. b || is_there x r) a)

pub removed_here : (x : Owned) (l : List Owned) (k : Owned) (r : List Owned) → IsInOrder (l ++ k ∷ r) → owned_cmp x k ≡ Equal → (removed x (l ++ k ∷ r) ≡ l ++ r) × (is_there x (l ++ k ∷ r) ≡ true) × (k ≡ x)
removed_here x l k r s e =
    let same = owned_same x k e in let a : is_eq (owned_cmp x k) ≡ true = ap is_eq e in
    let n = skipped x l (k ∷ r) (none_before x l k r s (λ y f. subst (λ z. owned_lt y z ≡ true) (sym same) f)) in
    (n.0 ∙ ap (λ b. l ++ cond b r (k ∷ removed x r)) a, n.1 ∙ ap (λ b. b || is_there x r) a, sym same)

after_removed : (y x : Owned) (xs : List Owned) → AllAfter y xs → AllAfter y (removed x xs)
after_removed y x [] a = tt
after_removed y x (z ∷ zs) a =
    elim (is_eq (owned_cmp x z)) as (λ b. AllAfter y (cond b zs (z ∷ removed x zs))) [
      | true ↦ a.1
      | false ↦ (a.0, after_removed y x zs a.1)
    ]

pub sorted_removed : (x : Owned) (xs : List Owned) → IsInOrder xs → IsInOrder (removed x xs)
sorted_removed x [] s = tt
sorted_removed x (y ∷ ys) s =
    elim (is_eq (owned_cmp x y)) as (λ b. IsInOrder (cond b ys (y ∷ removed x ys))) [
      | true ↦ s.1
      | false ↦ (after_removed y x ys s.0, sorted_removed x ys s.1)
    ]

pub length_removed : (x : Owned) (xs : List Owned) → length xs ≡ length (removed x xs) + cond (is_there x xs) 1 0
length_removed x [] = refl
length_removed x (y ∷ ys) =
    let i = length_removed x ys in
    elim (is_eq (owned_cmp x y)) as (λ b. suc (length ys) ≡ length (cond b ys (y ∷ removed x ys)) + cond (b || is_there x ys) 1 0) [
      | true ↦ omega arith
      | false ↦ omega (arith, i)
    ]

own_reverse : (o : Ordering) → o ≡ ordering_reverse o → is_eq o ≡ true
own_reverse Less e = cc
own_reverse Equal e = refl
own_reverse Greater e = cc

itself : (x : Owned) → is_eq (owned_cmp x x) ≡ true
itself x = own_reverse (owned_cmp x x) (owned_total.antisymm x x)

or_none : (a b : Bool) → (a || b) ≡ false → (a ≡ false) × (b ≡ false)
or_none true b e = cc
or_none false b e = (refl, e)

-- what isn't found is absent
pub absent : (x : Owned) (xs : List Owned) → is_there x xs ≡ false → IsAbsent x xs
absent x [] e = tt
absent x (y ∷ ys) e =
    let n = or_none (is_eq (owned_cmp x y)) (is_there x ys) e in
    ((λ same. true≢false (sym (itself x) ∙ ap (λ z. is_eq (owned_cmp x z)) same ∙ n.0)), absent x ys n.1)

pub equal_same : (x y : Owned) (o : Ordering) → owned_cmp x y ≡ o → is_eq o ≡ true → x ≡ y
equal_same x y Less e f = cc
equal_same x y Equal e f = owned_same x y e
equal_same x y Greater e f = cc

-- what is found stands in the list
pub present : (x : Owned) (xs : List Owned) → is_there x xs ≡ true → Contains xs x
present x [] e = cc
present x (y ∷ ys) e =
    (elim (is_eq (owned_cmp x y)) as (λ b. is_eq (owned_cmp x y) ≡ b → (b || is_there x ys) ≡ true → Contains (y ∷ ys) x) [
      | true ↦ λ at f. (0, omega arith, sym (equal_same x y (owned_cmp x y) refl at))
      | false ↦ λ at f. Contains-append_right (y ∷ []) ys x (present x ys f)
    ]) refl e

-- x is before all of these, so it isn't one of them
not_after : (x : Owned) (xs : List Owned) → AllAfter x xs → IsAbsent x xs
not_after x [] a = tt
not_after x (y ∷ ys) a =
    ((λ same. true≢false (sym (itself x) ∙ ap (λ z. is_eq (owned_cmp x z)) same ∙ less_apart x y a.0)), not_after x ys a.1)

-- a list in order has each item once
pub gone : (x : Owned) (xs : List Owned) → IsInOrder xs → IsAbsent x (removed x xs)
gone x [] s = tt
gone x (y ∷ ys) s =
    (elim (is_eq (owned_cmp x y)) as (λ b. is_eq (owned_cmp x y) ≡ b → IsAbsent x (cond b ys (y ∷ removed x ys))) [
      | true ↦ λ at. let same : x ≡ y = equal_same x y (owned_cmp x y) refl at in subst (λ z. IsAbsent z ys) (sym same) (not_after y ys s.0)
      | false ↦ λ at. ((λ same. true≢false (sym (itself x) ∙ ap (λ z. is_eq (owned_cmp x z)) same ∙ at)), gone x ys s.1)
    ]) refl
