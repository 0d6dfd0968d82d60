-- What a binary search for a number finds in the list.
use Rattle.std.proofs.Common.{◌≡◌, ℕ, zero, suc, ◌<◌, ◌≤◌, List, [], ◌∷◌, length, take, drop, Some, None, Option, Ok, Err, Result, Ordering, Less, Equal, Greater, refl, sym, inl, inr, arith}
use Rattle.std.specs.Prelude.{slice_index_or, slice_get, MatchResult}
use Rattle.std.specs.Cmp.{ranked}
use Rattle.std.specs.List.{AllWithin, HoldsAt}
use Rattle.std.specs.List.Sorted.{IsNonDecreasingBy, IsSearchInRange, IsBinarySearchResult}
use Rattle.std.specs.Ordering.{nat_cmp, ordering_index, MatchOrdering}
use Rattle.std.proofs.lemmas.Option.{slice_get_cases}
use Rattle.cv_subs.specs.Subs.{Subs, AllAbove, IsRising}
use Rattle.cv_subs.specs.Views.{shown, all_shown, AllBelow, IsAt, IsPlace}
use Rattle.cv_subs.specs.declared.record.Record.{Record}

above_index : (n : ℕ) (rs : List Record) (j : ℕ) (d : Record) → AllAbove n (all_shown rs) → j < length rs → n < (slice_index_or rs j d).id
above_index n [] j d above less = absurd (omega arith)
above_index n (y ∷ ys) zero d above less = above.0
above_index n (y ∷ ys) (suc j) d above less = above_index n ys j d above.1 (omega arith)

rising_index : (rs : List Record) (i j : ℕ) (d : Record) → IsRising (all_shown rs) → i ≤ j → j < length rs → (slice_index_or rs i d).id ≤ (slice_index_or rs j d).id
rising_index [] i j d rising order less = absurd (omega arith)
rising_index (y ∷ ys) zero zero d rising order less = omega arith
rising_index (y ∷ ys) zero (suc j) d rising order less = let h = above_index y.id ys j d rising.0 (omega arith) in omega (arith, h)
rising_index (y ∷ ys) (suc i) zero d rising order less = absurd (omega arith)
rising_index (y ∷ ys) (suc i) (suc j) d rising order less = rising_index ys i j d rising.1 (omega arith) (omega arith)

lower_index : (a b c : ℕ) (o p : Ordering) → a ≤ b → MatchOrdering o (a < c) (a ≡ c) (c < a) → MatchOrdering p (b < c) (b ≡ c) (c < b) → ordering_index o ≤ ordering_index p
lower_index a b c Less p less f g = omega arith
lower_index a b c Equal Less less f g = absurd (omega arith)
lower_index a b c Equal Equal less f g = omega arith
lower_index a b c Equal Greater less f g = omega arith
lower_index a b c Greater Less less f g = absurd (omega arith)
lower_index a b c Greater Equal less f g = absurd (omega arith)
lower_index a b c Greater Greater less f g = omega arith

below_of : (id : ℕ) (rs : List Record) (k : ℕ) → ((i : ℕ) (d : Record) → i < k → i < length rs → (slice_index_or rs i d).id < id) → AllBelow id (take k rs)
below_of id rs zero h = tt
below_of id [] (suc k) h = tt
below_of id (y ∷ ys) (suc k) h = (h 0 y (omega arith) (omega arith), below_of id ys k (λ i d less within. h (suc i) d (omega arith) (omega arith)))

above_of : (id : ℕ) (rs : List Record) (k : ℕ) → ((i : ℕ) (d : Record) → k ≤ i → i < length rs → id < (slice_index_or rs i d).id) → AllAbove id (all_shown (drop k rs))
above_of id [] zero h = tt
above_of id [] (suc k) h = tt
above_of id (y ∷ ys) zero h = (h 0 y (omega arith) (omega arith), above_of id ys zero (λ i d less within. h (suc i) d (omega arith) (omega arith)))
above_of id (y ∷ ys) (suc k) h = above_of id ys k (λ i d less within. h (suc i) d (omega arith) (omega arith))

cmp_less : (x y : ℕ) → nat_cmp x y ≡ Less → x < y
cmp_less x y e = ranked x y Less (sym e)

cmp_equal : (x y : ℕ) → nat_cmp x y ≡ Equal → x ≡ y
cmp_equal x y e = ranked x y Equal (sym e)

cmp_greater : (x y : ℕ) → nat_cmp x y ≡ Greater → y < x
cmp_greater x y e = ranked x y Greater (sym e)

at_is : (id k : ℕ) (rs : List Record) → k < length rs → HoldsAt (λ r. nat_cmp r.id id ≡ Equal) rs k → IsAt id k rs
at_is id k rs within same =
    elim (slice_get_cases rs k).1 [
      | inl h ↦ record { within = within; found = h.0; here = h.2; same = cmp_equal h.0.id id (rw h.3 at (same h.0)) }
      | inr h ↦ absurd (omega (arith, h.0))
    ]

-- by the clauses of the search
pub searched : (id : ℕ) (rs : List Record) (r : Result ℕ ℕ) → IsRising (all_shown rs) → IsSearchInRange r (length rs) → IsBinarySearchResult (λ (y : Record). nat_cmp y.id id) rs r
    → MatchResult r (λ k. IsAt id k rs) (λ k. IsPlace id k rs)
searched id rs (Ok k) rising bound found = at_is id k rs bound found
searched id rs (Err k) rising bound found =
    let order : IsNonDecreasingBy (λ (y : Record). ordering_index (nat_cmp y.id id)) rs = λ i j d less within.
    lower_index (slice_index_or rs i d).id (slice_index_or rs j d).id id (nat_cmp (slice_index_or rs i d).id id) (nat_cmp (slice_index_or rs j d).id id) (rising_index rs i j d rising less within)
    (ranked (slice_index_or rs i d).id id (nat_cmp (slice_index_or rs i d).id id) refl) (ranked (slice_index_or rs j d).id id (nat_cmp (slice_index_or rs j d).id id) refl) in
    let parts = found order in
    record {
      within = bound;
      below = below_of id rs k (λ i d less within. cmp_less (slice_index_or rs i d).id id (parts.0 i d (omega arith) less));
      above = above_of id rs k (λ i d less within. cmp_greater (slice_index_or rs i d).id id (parts.1 i d less within));
    }
