-- Changes keep the numbers in rising order.
use Rattle.std.proofs.Common.{◌≡◌, ℕ, ◌<◌, ◌≤◌, Bool, true, false, ◌==◌, nat_lt, cond, List, [], ◌∷◌, inl, inr, refl, sym, subst, arith}
use Rattle.std.proofs.lemmas.Bool.{eqb-true}
use Rattle.std.proofs.lemmas.Bool.Decides.{eqb_tells, nat_tests}
use Rattle.cv_subs.specs.Subs.{Sub, Subs, with_sub, without_sub, changed, AllAbove, IsRising}
use Rattle.cv_subs.proofs.Numbers.{above_more}

above_with : (n id : ℕ) (s : Sub) (l : Subs) → n < id → AllAbove n l → AllAbove n (with_sub id s l)
above_with n id s [] less above = (less, tt)
above_with n id s (p ∷ l) less above =
    elim (p.0 == id) as (λ b. AllAbove n (cond b ((id, s) ∷ l) (cond (nat_lt id p.0) ((id, s) ∷ p ∷ l) (p ∷ with_sub id s l)))) [
      | true ↦ (less, above.1)
      | false ↦ elim (nat_lt id p.0) as (λ b. AllAbove n (cond b ((id, s) ∷ p ∷ l) (p ∷ with_sub id s l))) [
        | true ↦ (less, above)
        | false ↦ (above.0, above_with n id s l less above.1)
      ]
    ]

more_than : (a b : ℕ) → (a == b) ≡ false → nat_lt b a ≡ false → a < b
more_than a b e f = grind (arith, nat_tests)

pub rising_with : (id : ℕ) (s : Sub) (l : Subs) → IsRising l → IsRising (with_sub id s l)
rising_with id s [] rising = (tt, tt)
rising_with id s (p ∷ l) rising =
    (elim (p.0 == id) as (λ b. (p.0 == id) ≡ b → IsRising (cond b ((id, s) ∷ l) (cond (nat_lt id p.0) ((id, s) ∷ p ∷ l) (p ∷ with_sub id s l)))) [
      | true ↦ λ same. (subst (λ (n : ℕ). AllAbove n l) (eqb-true p.0 id same) rising.0, rising.1)
      | false ↦ λ other. (elim (nat_lt id p.0) as (λ b. nat_lt id p.0 ≡ b → IsRising (cond b ((id, s) ∷ p ∷ l) (p ∷ with_sub id s l))) [
        | true ↦ λ less. let below : id < p.0 = grind (arith, nat_tests) in ((below, above_more id p.0 l (omega arith) rising.0), rising)
        | false ↦ λ more. (above_with p.0 id s l (more_than p.0 id other more) rising.0, rising_with id s l rising.1)
      ]) refl
    ]) refl

above_without : (n id : ℕ) (l : Subs) → AllAbove n l → AllAbove n (without_sub id l)
above_without n id [] above = tt
above_without n id (p ∷ l) above =
    elim (p.0 == id) as (λ b. AllAbove n (cond b (without_sub id l) (p ∷ without_sub id l))) [
      | true ↦ above_without n id l above.1
      | false ↦ (above.0, above_without n id l above.1)
    ]

pub rising_without : (id : ℕ) (l : Subs) → IsRising l → IsRising (without_sub id l)
rising_without id [] rising = tt
rising_without id (p ∷ l) rising =
    elim (p.0 == id) as (λ b. IsRising (cond b (without_sub id l) (p ∷ without_sub id l))) [
      | true ↦ rising_without id l rising.1
      | false ↦ (above_without p.0 id l rising.0, rising_without id l rising.1)
    ]

above_changed : (n id : ℕ) (f : Sub → Sub) (l : Subs) → AllAbove n l → AllAbove n (changed id f l)
above_changed n id f [] above = tt
above_changed n id f (p ∷ l) above = (above.0, above_changed n id f l above.1)

pub rising_changed : (id : ℕ) (f : Sub → Sub) (l : Subs) → IsRising l → IsRising (changed id f l)
rising_changed id f [] rising = tt
rising_changed id f (p ∷ l) rising = (above_changed p.0 id f l rising.0, rising_changed id f l rising.1)
