-- Tests on numbers, and lists above a number.
use Rattle.std.proofs.Common.{◌≡◌, ◌≢◌, ℕ, ◌<◌, ◌≤◌, Bool, true, false, ◌==◌, cond, List, [], ◌∷◌, Some, None, Option, refl, sym, ap, inl, inr, arith}
use Rattle.std.proofs.lemmas.Bool.{eq-eqb}
use Rattle.std.proofs.lemmas.Bool.Decides.{eqb_tells}
use Rattle.cv_subs.specs.Subs.{Sub, Subs, sub_at, without_sub, changed, AllAbove}

pub alike : (a b : ℕ) → a ≡ b → (a == b) ≡ true
alike a b e = eq-eqb a b e

pub differ : (a b : ℕ) → a ≢ b → (a == b) ≡ false
differ a b n = elim (eqb_tells a b) [ inl h ↦ absurd (n h.1) | inr h ↦ h.0 ]

pub other_way : (a b : ℕ) → (a == b) ≡ (b == a)
other_way a b =
    elim (eqb_tells a b) [
      | inl h ↦ let back : (b == a) ≡ true = alike b a (sym h.1) in cc
      | inr h ↦ let back : (b == a) ≡ false = differ b a (λ e. h.1 (sym e)) in cc
    ]

pub above_more : (a b : ℕ) (l : Subs) → a ≤ b → AllAbove b l → AllAbove a l
above_more a b [] less above = tt
above_more a b (p ∷ l) less above = (omega (arith, above.0), above_more a b l less above.1)

pub absent_above : (id : ℕ) (l : Subs) → AllAbove id l → sub_at id l ≡ None
absent_above id [] above = refl
absent_above id (p ∷ l) above =
    let d : (p.0 == id) ≡ false = differ p.0 id (λ e. omega (arith, above.0)) in
    rw d (absent_above id l above.1)

pub unchanged_above : (id : ℕ) (f : Sub → Sub) (l : Subs) → AllAbove id l → changed id f l ≡ l
unchanged_above id f [] above = refl
unchanged_above id f (p ∷ l) above =
    let d : (p.0 == id) ≡ false = differ p.0 id (λ e. omega (arith, above.0)) in
    rw d (ap (λ (m : Subs). p ∷ m) (unchanged_above id f l above.1))

pub kept_above : (id : ℕ) (l : Subs) → AllAbove id l → without_sub id l ≡ l
kept_above id [] above = refl
kept_above id (p ∷ l) above =
    let d : (p.0 == id) ≡ false = differ p.0 id (λ e. omega (arith, above.0)) in
    rw d (ap (λ (m : Subs). p ∷ m) (kept_above id l above.1))
