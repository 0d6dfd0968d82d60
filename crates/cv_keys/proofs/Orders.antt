-- Orders one after the other.
use Rattle.std.proofs.Common.{◌≡◌, ℕ, suc, ◌+◌, ◌*◌, ◌<◌, ◌≤◌, Ordering, Less, Equal, Greater, refl, ap, sym, ◌∙◌, arith}
use Rattle.std.proofs.Math.Nat.{mul-le-mul_right}
use Rattle.std.proofs.lemmas.Cmp.{by_ranked, ranked}
use Rattle.std.proofs.lemmas.Bool.Decides.{nat_tests}
use Rattle.std.specs.Ordering.{nat_cmp, ordering_then}

pub then_assoc : (a b c : Ordering) → ordering_then (ordering_then a b) c ≡ ordering_then a (ordering_then b c)
then_assoc Less b c = refl
then_assoc Equal b c = refl
then_assoc Greater b c = refl

pub then_equal : (a : Ordering) → ordering_then a Equal ≡ a
then_equal Less = refl
then_equal Equal = refl
then_equal Greater = refl

pub zero_below : (n : ℕ) → nat_cmp 0 (suc n) ≡ Less
zero_below n = grind (arith, nat_tests)

pub above_zero : (n : ℕ) → nat_cmp (suc n) 0 ≡ Greater
above_zero n = grind (arith, nat_tests)

is_less : (m n : ℕ) → m < n → nat_cmp m n ≡ Less
is_less m n h = grind (arith, nat_tests)

is_greater : (m n : ℕ) → n < m → nat_cmp m n ≡ Greater
is_greater m n h = grind (arith, nat_tests)

shifted : (k m n : ℕ) → nat_cmp (k + m) (k + n) ≡ nat_cmp m n
shifted k m n = grind (arith, nat_tests)

row_below : (p a b c d : ℕ) → a < c → b < p → a * p + b < c * p + d
row_below p a b c d h k =
    let rows : (a + 1) * p ≤ c * p = mul-le-mul_right p (omega arith) in
    omega (arith, rows)

-- a number of two digits goes by the first and then by the second
pub digits_cmp : (p a b c d : ℕ) → b < p → d < p → nat_cmp (a * p + b) (c * p + d) ≡ ordering_then (nat_cmp a c) (nat_cmp b d)
digits_cmp p a b c d h k =
    by_ranked (a < c) (a ≡ c) (c < a) (nat_cmp a c) (ranked a c (nat_cmp a c) refl)
    (λ o l. is_less (a * p + b) (c * p + d) (row_below p a b c d l h) ∙ sym (ap (λ r. ordering_then r (nat_cmp b d)) o))
    (λ o l. ap (λ x. nat_cmp (x * p + b) (c * p + d)) l ∙ shifted (c * p) b d ∙ sym (ap (λ r. ordering_then r (nat_cmp b d)) o))
    (λ o l. is_greater (a * p + b) (c * p + d) (row_below p c d a b l k) ∙ sym (ap (λ r. ordering_then r (nat_cmp b d)) o))
