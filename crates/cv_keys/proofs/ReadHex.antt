-- Reading digits gives back the number that was written.
use Rattle.std.proofs.Common.{◌≡◌, ℕ, zero, suc, ◌+◌, ◌-◌, ◌*◌, ◌/◌, ◌%◌, ◌^◌, ◌<◌, List, [], ◌∷◌, ◌++◌, Option, Some, None, refl, ap, sym, ◌∙◌, arith}
use Rattle.std.proofs.lemmas.Bool.Decides.{nat_tests}
use Rattle.std.proofs.lemmas.Grind.{pow_more}
use Rattle.std.proofs.lemmas.Nat.{pow-add, mod_below, div-mul-add, mul-add-lt}
use Rattle.std.proofs.Math.Arith.{mod-mul}
use Rattle.std.proofs.Math.Nat.{mod-eq_of_lt, mul-add-div_right, mul-add-mod_self_right}
use Rattle.std.specs.Prelude.{option_and_then, unwrap_or}
use Rattle.cv_values.specs.Ids.{digit, digit_value, hex_of}
use Rattle.cv_keys.specs.KeyIds.{read_digits}

pub value_of_digit : (d : ℕ) → d < 16 → digit_value (digit d) ≡ Some d
value_of_digit d h = grind (arith, nat_tests)

power_above : (w : ℕ) → 0 < 16 ^ w
power_above zero = omega arith
power_above (suc w) = omega (arith, power_above w)

sixteens : (w : ℕ) → 2 ^ (4 * w) ≡ 16 ^ w
sixteens zero = refl
sixteens (suc w) =
    let e : 4 * suc w ≡ 4 + 4 * w = omega arith in
    let f : 16 ^ suc w ≡ 16 * 16 ^ w = omega arith in
    ap (λ k. 2 ^ k) e ∙ pow-add 2 4 (4 * w) ∙ ap (λ k. 16 * k) (sixteens w) ∙ sym f

-- the low digits of n are the first of them and the others
low : (w n : ℕ) → n % 16 ^ suc w ≡ (n / 2 ^ (4 * w) % 16) * 16 ^ w + n % 16 ^ w
low w n =
    let e : 16 ^ suc w ≡ 16 * 16 ^ w = omega arith in
    ap (λ k. n % k) e ∙ mod-mul n {m = 16} {c = 16 ^ w} (omega arith) (power_above w) ∙ ap (λ k. (n / k % 16) * 16 ^ w + n % 16 ^ w) (sym (sixteens w))

moved : (p n d r : ℕ) → (n * 16 + d) * p + r ≡ n * (16 * p) + (d * p + r)
moved p n d r = grind arith

pub read_digits-hex_of : (w n m : ℕ) (rest : List ℕ) → read_digits w n (hex_of w m ++ rest) ≡ Some (n * 16 ^ w + m % 16 ^ w, rest)
unfolding hex_of
read_digits-hex_of zero n m rest =
    let e : n ≡ n * 1 + m % 1 = omega arith in
    ap (λ k. Some (k, rest)) e
read_digits-hex_of (suc w) n m rest =
    let d = m / 2 ^ (4 * w) % 16 in
    let e : 16 ^ suc w ≡ 16 * 16 ^ w = omega arith in
    ap (option_and_then (λ x. read_digits w (n * 16 + x) (hex_of w m ++ rest))) (value_of_digit d (mod_below (m / 2 ^ (4 * w)) 16 (omega arith)))
    ∙ read_digits-hex_of w (n * 16 + d) m rest
    ∙ ap (λ k. Some (k, rest)) (moved (16 ^ w) n d (m % 16 ^ w) ∙ ap (λ k. n * k + (d * 16 ^ w + m % 16 ^ w)) (sym e) ∙ ap (λ k. n * 16 ^ suc w + k) (sym (low w m)))

digit_back : (c d : ℕ) → digit_value c ≡ Some d → digit d ≡ c
digit_back c d e = grind (arith, nat_tests)

digit_below : (c d : ℕ) → digit_value c ≡ Some d → d < 16
digit_below c d e = grind (arith, nat_tests)

shifted : (w x y : ℕ) → (x * 16 * 16 ^ w + y) / 2 ^ (4 * w) % 16 ≡ y / 2 ^ (4 * w) % 16
shifted w x y =
    ap (λ p. (x * 16 * 16 ^ w + y) / p % 16) (sixteens w)
    ∙ ap (λ z. z % 16) (mul-add-div_right (power_above w) (x * 16) y)
    ∙ mul-add-mod_self_right x 16 (y / 16 ^ w)
    ∙ ap (λ p. y / p % 16) (sym (sixteens w))

-- digits above those that are written don't matter
hex_high : (w v a k : ℕ) → hex_of w (a * 16 ^ (v + w) + k) ≡ hex_of w k
unfolding hex_of
hex_high zero v a k = refl
hex_high (suc w) v a k =
    let p : 16 ^ (v + suc w) ≡ 16 ^ v * 16 ^ suc w = pow-add 16 v (suc w) in
    let q : 16 ^ suc w ≡ 16 * 16 ^ w = omega arith in
    let e : a * 16 ^ (v + suc w) + k ≡ a * 16 ^ v * 16 * 16 ^ w + k = rw (p, q) (grind arith) in
    let f : v + suc w ≡ suc v + w = omega arith in
    let first : (a * 16 ^ (v + suc w) + k) / 2 ^ (4 * w) % 16 ≡ k / 2 ^ (4 * w) % 16 = ap (λ x. x / 2 ^ (4 * w) % 16) e ∙ shifted w (a * 16 ^ v) k in
    let others : hex_of w (a * 16 ^ (v + suc w) + k) ≡ hex_of w k = ap (λ j. hex_of w (a * 16 ^ j + k)) f ∙ hex_high w (suc v) a k in
    ap (λ x. digit x ∷ hex_of w (a * 16 ^ (v + suc w) + k)) first ∙ ap (λ l. digit (k / 2 ^ (4 * w) % 16) ∷ l) others

-- one digit before others
hex_first : (w d k : ℕ) → d < 16 → k < 16 ^ w → hex_of (suc w) (d * 16 ^ w + k) ≡ digit d ∷ hex_of w k
unfolding hex_of
hex_first w d k h l =
    let same : (d * 16 ^ w + k) / 2 ^ (4 * w) % 16 ≡ d = ap (λ p. (d * 16 ^ w + k) / p % 16) (sixteens w) ∙ ap (λ z. z % 16) (div-mul-add d (16 ^ w) k l) ∙ omega arith in
    let z : w ≡ 0 + w = omega arith in
    ap (λ x. digit x ∷ hex_of w (d * 16 ^ w + k)) same ∙ ap (λ r. digit d ∷ r) (ap (λ j. hex_of w (d * 16 ^ j + k)) z ∙ hex_high w 0 d k)

-- what reading so many digits found
pub record Reads (width n : ℕ) (bytes : List ℕ) (m : ℕ) (rest : List ℕ) : Type 0 where
  pub low : ℕ
  pub below : low < 16 ^ width
  pub number : m ≡ n * 16 ^ width + low
  pub parts : bytes ≡ hex_of width low ++ rest

pub read_sound : (w n : ℕ) (bytes : List ℕ) (m : ℕ) (rest : List ℕ) → read_digits w n bytes ≡ Some (m, rest) → Reads w n bytes m rest
unfolding hex_of
read_sound zero n bytes m rest e =
    let pairs : Option (ℕ × List ℕ) → ℕ × List ℕ = λ o. unwrap_or o (0, []) in
    let first : n ≡ m = ap (λ o. (pairs o).0) e in
    let second : bytes ≡ rest = ap (λ o. (pairs o).1) e in
    record { low = 0; below = omega arith; number = omega arith; parts = second }
read_sound (suc w) n [] m rest e = cc
read_sound (suc w) n (c ∷ bytes) m rest e = go (digit_value c) refl (λ d f. read_sound w (n * 16 + d) bytes m rest f)
  where
    go : (o : Option ℕ) → digit_value c ≡ o → ((d : ℕ) → read_digits w (n * 16 + d) bytes ≡ Some (m, rest) → Reads w (n * 16 + d) bytes m rest) → Reads (suc w) n (c ∷ bytes) m rest
    go None none ih = let f = rw none at e in cc
    go (Some d) some ih =
        let others = ih d (rw some at e) in
        let fits : d < 16 = digit_below c d some in
        let more : 16 ^ suc w ≡ 16 * 16 ^ w = omega arith in
        let room : d * 16 ^ w + others.low < 16 ^ w * 16 = mul-add-lt d (16 ^ w) others.low 16 fits others.below in
        record {
          low = d * 16 ^ w + others.low;
          below = omega (arith, room, more);
          number = others.number ∙ moved (16 ^ w) n d others.low ∙ ap (λ k. n * k + (d * 16 ^ w + others.low)) (sym more);
          parts = ap (λ x. x ∷ bytes) (sym (digit_back c d some)) ∙ ap (λ l. digit d ∷ l) others.parts ∙ sym (ap (λ l. l ++ rest) (hex_first w d others.low fits others.below));
        }

-- the same from nothing read
pub read_whole : (w : ℕ) (bytes : List ℕ) (m : ℕ) (rest : List ℕ) → read_digits w 0 bytes ≡ Some (m, rest) → (m < 16 ^ w) × (bytes ≡ hex_of w m ++ rest)
read_whole w bytes m rest e =
    let r = read_sound w 0 bytes m rest e in
    let same : m ≡ r.low = omega (arith, r.number) in
    (omega (arith, same, r.below), r.parts ∙ ap (λ k. hex_of w k ++ rest) (sym same))

pub read_written : (w m : ℕ) (rest : List ℕ) → m < 16 ^ w → read_digits w 0 (hex_of w m ++ rest) ≡ Some (m, rest)
read_written w m rest h =
    let low_is : m % 16 ^ w ≡ m = mod-eq_of_lt h in
    let same : 0 * 16 ^ w + m % 16 ^ w ≡ m = omega (arith, low_is) in
    read_digits-hex_of w 0 m rest ∙ ap (λ k. Some (k, rest)) same

-- one digit more
pub read_more : (width i n c d : ℕ) (rest more : List ℕ) → i < width → rest ≡ c ∷ more → digit_value c ≡ Some d → read_digits (width - i) n rest ≡ read_digits (width - (i + 1)) (n * 16 + d) more
read_more width i n c d rest more h front some =
    let e : width - i ≡ suc (width - (i + 1)) = omega arith in
    ap (λ w. read_digits w n rest) e ∙ ap (read_digits (suc (width - (i + 1))) n) front ∙ ap (option_and_then (λ x. read_digits (width - (i + 1)) (n * 16 + x) more)) some

pub below_more : (i n d : ℕ) → n < 16 ^ i → d < 16 → n * 16 + d < 16 ^ (i + 1)
below_more i n d h k = let p : 16 ^ (i + 1) ≡ 16 ^ i * 16 = pow_more 16 i in omega (arith, p)
