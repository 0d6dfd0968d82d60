-- The list that a tree is: intervals with their owners, in order.
use Rattle.std.specs.Prelude.{◌≡◌, ◌≢◌, ℕ, zero, suc, ◌+◌, ◌*◌, ◌≤◌, Bool, true, false, ◌||◌, cond, List, [], ◌∷◌, ◌++◌, map, filter}
use Rattle.std.specs.Cmp.Lexicographic.{slice_cmp}
use Rattle.std.specs.Ordering.{nat_cmp, is_lt, is_eq, ordering_then}
use Rattle.std.specs.declared.cmp.Ordering.{Ordering}
use Rattle.cv_keys.specs.Intervals.{contains}
use Rattle.cv_keys.specs.declared.interval.Interval.{Interval}
use Rattle.range_tree.specs.Points.{point_cmp, low}

-- an interval with its owner
abbrev pub Owned : Type 0
Owned = Interval × ℕ

-- the order of the list: by table, index, low end, high end, owner
abbrev pub owned_cmp : Owned → Owned → Ordering
owned_cmp x y = ordering_then (ordering_then (point_cmp (low x.0) (low y.0)) (slice_cmp nat_cmp x.0.hi y.0.hi)) (nat_cmp x.1 y.1)

-- whether the one comes before the other
abbrev pub owned_lt : Owned → Owned → Bool
owned_lt x y = is_lt (owned_cmp x y)

-- x is before each of the list
abbrev pub AllAfter : Owned → List Owned → Type 0
AllAfter x [] = Unit {0}
AllAfter x (y ∷ ys) = (owned_lt x y ≡ true) × AllAfter x ys

-- each is before all that follow it
abbrev pub IsInOrder : List Owned → Type 0
IsInOrder [] = Unit {0}
IsInOrder (x ∷ xs) = AllAfter x xs × IsInOrder xs

-- no such interval of that owner is there
abbrev pub IsAbsent : Owned → List Owned → Type 0
IsAbsent x [] = Unit {0}
IsAbsent x (y ∷ ys) = (x ≢ y) × IsAbsent x ys

-- the list with x before the first that comes after it
abbrev pub inserted : Owned → List Owned → List Owned
inserted x [] = x ∷ []
inserted x (y ∷ ys) = cond (owned_lt x y) (x ∷ y ∷ ys) (y ∷ inserted x ys)

-- the list without x
abbrev pub removed : Owned → List Owned → List Owned
removed x [] = []
removed x (y ∷ ys) = cond (is_eq (owned_cmp x y)) ys (y ∷ removed x ys)

-- whether x is there
abbrev pub is_there : Owned → List Owned → Bool
is_there x [] = false
is_there x (y ∷ ys) = is_eq (owned_cmp x y) || is_there x ys

-- the owners of the intervals that contain the key, in order
abbrev pub owners_at : ℕ → ℕ → List ℕ → List Owned → List ℕ
owners_at table index key xs = map (λ x. x.1) (filter (λ x. contains x.0 table index key) xs)

-- a visitor that had seen a list of owners has seen these behind it
abbrev pub Takes : {V : Type 0} → (List ℕ → V → Type 0) → V → List ℕ → V → Type 0
Takes has_seen old owners new = (seen : List ℕ) → has_seen seen old → has_seen (seen ++ owners) new

-- the Fibonacci numbers, from 1 and 1 on
abbrev pub fib : ℕ → ℕ
fib zero = 1
fib (suc zero) = 1
fib (suc (suc n)) = fib (suc n) + fib n

-- so many steps are few where k of n intervals are hit: h is the height of a balanced tree
abbrev pub IsFew : ℕ → ℕ → ℕ → Type 0
IsFew n k steps = (h : ℕ) × (fib (suc h) ≤ n + 1) × (steps ≤ 2 * ((k + 1) * h) + 1)
