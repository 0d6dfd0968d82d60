-- What the words of a script's lines are read as.
use Rattle.std.proofs.Common.{◌≡◌, ℕ, zero, suc, ◌<◌, ◌^◌, List, length, drop, get_or, ℤ, pos, neg_ℤ, Bool, true, false, cond, ◌&&◌, ◌||◌, not, nat_lt, nat_eq, is_some, Some, None, Result, Ok, Err, w64, SFits, to_z, of_z, to_z-of_z, subst, ap, inl, inr, refl, sym, ◌∙◌, arith, rules}
use Rattle.std.specs.Prelude.{option_and_then}
use Rattle.std.specs.Result.{result_ok}
use Rattle.std.specs.List.{list_all}
use Rattle.std.specs.Char.{is_ascii_digit}
use Rattle.std.specs.Str.Parse.{ParsesSigned, ParsesUnsigned, digits_value}
use Rattle.std.proofs.lemmas.Str.Parse.{IsNumeralModel, numerals_by_value, parse_digits, parse_signed_digits, parse_signed_minus}
use Rattle.std.proofs.lemmas.Bool.{and_parts}
use Rattle.std.proofs.lemmas.Bool.Decides.{Decides-ltb, leb_tells}
use Rattle.cv_stand.specs.Events.{at_least_zero, below_zero}
use Rattle.cv_stand.specs.ScriptLine.{number_of, request_number}

own : IsNumeralModel (λ ds. list_all is_ascii_digit ds ≡ true) (digits_value 10)
own = numerals_by_value _ (search rules)

-- digits, at least one, and no leading zero
abbrev pub passes : List ℕ → Bool
passes w = list_all is_ascii_digit w && nat_lt 0 (length w) && (nat_lt (length w) 2 || not (nat_eq (get_or w 0 0) 48))

-- a word that is a number
pub record IsNumber (w : List ℕ) : Type 0 where
  pub test : passes w ≡ true
  pub digits : list_all is_ascii_digit w ≡ true
  pub some : 0 < length w

cond_true : {X : Type 0} (b : Bool) (x : X) → is_some (cond b (Some x) None) ≡ true → b ≡ true
cond_true true x e = refl
cond_true false x e = e

cond_false : {X : Type 0} (b : Bool) (x : X) → is_some (cond b (Some x) None) ≡ false → b ≡ false
cond_false true x e = e
cond_false false x e = refl

pub number_is : (w : List ℕ) → is_some (number_of w) ≡ true → IsNumber w
number_is w e =
    let all : passes w ≡ true = cond_true (passes w) (digits_value 10 w) e in
    let p = and_parts (list_all is_ascii_digit w && nat_lt 0 (length w)) (nat_lt (length w) 2 || not (nat_eq (get_or w 0 0) 48)) all in
    let q = and_parts (list_all is_ascii_digit w) (nat_lt 0 (length w)) p.0 in
    record { test = all; digits = q.0; some = (Decides-ltb 0 (length w)).0 q.1 }

pub no_number : (w : List ℕ) → is_some (number_of w) ≡ false → passes w ≡ false
no_number w e = cond_false (passes w) (digits_value 10 w) e

-- ---- requests

pub request_parsed : {E : Type 0} (w : List ℕ) (r : Result ℕ E) → ParsesUnsigned 32 10 w r → IsNumber w → result_ok r ≡ request_number w
request_parsed {E} w (Ok x) p n =
    let h = parse_digits own {E = E} 32 w (Ok x) p n.digits in
    let small : nat_lt (digits_value 10 w) (2 ^ 32) ≡ true = (Decides-ltb (digits_value 10 w) (2 ^ 32)).1 h.0.1 in
    rw (n.test, small, h.1)
request_parsed {E} w (Err e) p n =
    let h = parse_digits own {E = E} 32 w (Err e) p n.digits in
    elim (leb_tells (suc (digits_value 10 w)) (2 ^ 32)) [
      | inl t ↦ absurd (h (n.some, t.1))
      | inr t ↦ rw (n.test, t.0)
    ]

pub no_request : (w : List ℕ) → is_some (number_of w) ≡ false → None ≡ request_number w
no_request w e = rw (no_number w e)

-- ---- moments

pub at_least_zero_parsed : {E : Type 0} (w : List ℕ) (r : Result ℤ E) → ParsesSigned w64 10 w r → IsNumber w → result_ok r ≡ option_and_then at_least_zero (number_of w)
at_least_zero_parsed {E} w (Ok x) p n =
    let h = parse_signed_digits own {E = E} w64 w (Ok x) p n.digits in
    let small : nat_lt (digits_value 10 w) (2 ^ 63) ≡ true = (Decides-ltb (digits_value 10 w) (2 ^ 63)).1 h.0.1 in
    rw (n.test, small, h.1)
at_least_zero_parsed {E} w (Err e) p n =
    let h = parse_signed_digits own {E = E} w64 w (Err e) p n.digits in
    elim (leb_tells (suc (digits_value 10 w)) (2 ^ 63)) [
      | inl t ↦ absurd (h (n.some, t.1))
      | inr t ↦ rw (n.test, t.0)
    ]

negated_zero : (n : ℕ) → neg_ℤ (pos n) ≡ pos 0 → n ≡ 0
negated_zero zero e = refl
negated_zero (suc n) e = cc

-- of a word that begins with `-`
module _ {E : Type 0} (w : List ℕ) (r : Result ℤ E) (parses : ParsesSigned w64 10 w r) (minus : get_or w 0 0 ≡ 45) (number : IsNumber (drop 1 w)) where
  back : (x : ℤ) → r ≡ Ok x → to_z w64 (of_z w64 x) ≡ x
  back x is =
      let p : ParsesSigned {E = E} w64 10 w (Ok x) = rw is at parses in
      to_z-of_z (subst (SFits w64) (sym p.1) p.0.1)

  pub below_zero_parsed : (x : ℤ) → r ≡ Ok x → (of_z w64 x ≡ 0 → ⊥) → Some (to_z w64 (of_z w64 x)) ≡ option_and_then below_zero (number_of (drop 1 w))
  below_zero_parsed x is some =
      let v : ℕ = digits_value 10 (drop 1 w) in
      let h = parse_signed_minus own {E = E} w64 w (Ok x) (rw is at parses) minus in
      elim (leb_tells v (2 ^ 63)) [
        | inl t ↦ elim (leb_tells 1 v) [
          | inl u ↦ rw (back x is, number.test, u.0, t.0, h.1)
          | inr u ↦ absurd (let z : v ≡ 0 = omega (arith, u.1) in some (ap (of_z w64) (rw z at h.1)))
        ]
        | inr t ↦ absurd (omega (arith, t.1, h.0.2))
      ]

  pub zero_parsed : (x : ℤ) → r ≡ Ok x → of_z w64 x ≡ 0 → None ≡ option_and_then below_zero (number_of (drop 1 w))
  zero_parsed x is none =
      let h = parse_signed_minus own {E = E} w64 w (Ok x) (rw is at parses) minus in
      let x_is : x ≡ pos 0 = sym (back x is) ∙ ap (to_z w64) none in
      let z : digits_value 10 (drop 1 w) ≡ 0 = negated_zero _ (sym h.1 ∙ x_is) in
      rw (number.test, z)

  pub too_low_parsed : (e : E) → r ≡ Err e → None ≡ option_and_then below_zero (number_of (drop 1 w))
  too_low_parsed e is =
      let v : ℕ = digits_value 10 (drop 1 w) in
      let h = parse_signed_minus own {E = E} w64 w (Err e) (rw is at parses) minus in
      elim (leb_tells v (2 ^ 63)) [
        | inl t ↦ absurd (h (number.digits, number.some, t.1))
        | inr t ↦ elim (leb_tells 1 v) [ inl u ↦ rw (number.test, u.0, t.0) | inr u ↦ rw (number.test, u.0) ]
      ]
