-- The value of digits, held at the greatest number of the machine.
use Rattle.std.proofs.Common.{◌≡◌, ℕ, suc, add-one, ◌+◌, ◌-◌, ◌*◌, ◌<◌, ◌≤◌, List, [], ◌∷◌, length, drop, get_or, sym, ◌∙◌, inl, inr, arith}
use Rattle.std.specs.Prelude.{min}
use Rattle.std.proofs.lemmas.Bool.Decides.{leb_tells}
use Rattle.std.proofs.Math.Seq.{drop-cons}
use Rattle.std.proofs.lemmas.List.{drop_all}
use Rattle.fn_tree.specs.Lexemes.{value_after}

value_after-le : (n m : ℕ) (ds : List ℕ) → n ≤ m → n ≤ value_after m ds
value_after-le n m [] h = h
value_after-le n m (d ∷ ds) h = value_after-le n (m * 10 + (d - 48)) ds (omega arith)

min_high : (n top : ℕ) → top ≤ n → min n top ≡ top
min_high n top h = grind arith

min_low : (n top : ℕ) → n ≤ top → min n top ≡ n
min_low n top h = grind arith

-- one more digit, where each step is held at the top
pub held_step : (n d top : ℕ) (ds : List ℕ) → min (value_after n (d ∷ ds)) top ≡ min (value_after (min (min (n * 10) top + (d - 48)) top) ds) top
held_step n d top ds = elim (leb_tells (n * 10 + (d - 48)) top) [
  | inl t ↦
      let a : min (n * 10) top ≡ n * 10 = min_low (n * 10) top (omega (arith, t.1)) in
      let b : min (n * 10 + (d - 48)) top ≡ n * 10 + (d - 48) = min_low (n * 10 + (d - 48)) top t.1 in
      rw (a, b)
  | inr t ↦
      let b : min (min (n * 10) top + (d - 48)) top ≡ top = grind (arith, t.1) in
      let l : top ≤ value_after (n * 10 + (d - 48)) ds = value_after-le top (n * 10 + (d - 48)) ds (omega (arith, t.1)) in
      let r : top ≤ value_after top ds = value_after-le top top ds (omega arith) in
      rw (b, min_high (value_after (n * 10 + (d - 48)) ds) top l, min_high (value_after top ds) top r)
]

-- the digit at an index, and those after it
pub held_next : (digits : List ℕ) (i v w top start : ℕ) → i < length digits → start ≡ min (value_after v (drop i digits)) top
    → w ≡ min (min (v * 10) top + (get_or digits i 0 - 48)) top → start ≡ min (value_after w (drop (i + 1) digits)) top
held_next digits i v w top start h s e =
    let d = drop-cons digits i 0 h in let f = rw d at s in rw (e, add-one) (f ∙ held_step v (get_or digits i 0) top (drop (suc i) digits))

pub held_end : (digits : List ℕ) (i v top start : ℕ) → length digits ≤ i → v ≤ top → start ≡ min (value_after v (drop i digits)) top → v ≡ start
held_end digits i v top start h low s = let d = drop_all i digits h in let f = rw d at s in sym (f ∙ min_low v top low)
