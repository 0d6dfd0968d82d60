-- The bytes of a number, the highest first, go by the number.
use Rattle.std.proofs.Common.{◌≡◌, ℕ, zero, suc, ◌+◌, ◌*◌, ◌/◌, ◌%◌, ◌^◌, ◌<◌, List, ◌++◌, refl, ap, sym, ◌∙◌, arith}
use Rattle.std.proofs.lemmas.Nat.{mod_below}
use Rattle.std.proofs.Math.Arith.{mod-mul}
use Rattle.std.specs.Int.{byte_at, bytes_high_first}
use Rattle.std.specs.Ordering.{nat_cmp, ordering_then}
use Rattle.cv_values.specs.Order.{text_cmp}
use Rattle.cv_keys.proofs.Orders.{then_assoc, digits_cmp}

power_above : (w : ℕ) → 0 < 256 ^ w
power_above zero = omega arith
power_above (suc w) = omega (arith, power_above w)

byte_is : (w n : ℕ) → byte_at w n ≡ n / 256 ^ w % 256
byte_is zero n = omega arith
byte_is (suc w) n = refl

-- of so many bytes the first one and the others
low : (w n : ℕ) → n % 256 ^ suc w ≡ byte_at w n * 256 ^ w + n % 256 ^ w
low w n =
    let e : 256 ^ suc w ≡ 256 * 256 ^ w = omega arith in
    ap (λ k. n % k) e ∙ mod-mul n {m = 256} {c = 256 ^ w} (omega arith) (power_above w) ∙ ap (λ b. b * 256 ^ w + n % 256 ^ w) (sym (byte_is w n))

pub bytes_cmp : (w m n : ℕ) (xs ys : List ℕ) → text_cmp (bytes_high_first w m ++ xs) (bytes_high_first w n ++ ys) ≡ ordering_then (nat_cmp (m % 256 ^ w) (n % 256 ^ w)) (text_cmp xs ys)
bytes_cmp zero m n xs ys =
    let a : m % 1 ≡ 0 = omega arith in
    let b : n % 1 ≡ 0 = omega arith in
    rw (a, b)
bytes_cmp (suc w) m n xs ys =
    let p = 256 ^ w in
    let first = nat_cmp (byte_at w m) (byte_at w n) in
    let both : nat_cmp (m % 256 ^ suc w) (n % 256 ^ suc w) ≡ ordering_then first (nat_cmp (m % p) (n % p)) =
    ap (λ x. nat_cmp x (n % 256 ^ suc w)) (low w m) ∙ ap (λ y. nat_cmp (byte_at w m * p + m % p) y) (low w n)
    ∙ digits_cmp p (byte_at w m) (m % p) (byte_at w n) (n % p) (mod_below m p (power_above w)) (mod_below n p (power_above w)) in
    ap (ordering_then first) (bytes_cmp w m n xs ys) ∙ sym (then_assoc first (nat_cmp (m % p) (n % p)) (text_cmp xs ys))
    ∙ ap (λ o. ordering_then o (text_cmp xs ys)) (sym both)
