-- Lines of an input.
use Rattle.std.proofs.Common.{◌≡◌, ℕ, zero, suc, ◌<◌, List, [], ◌∷◌, length, get_or, take, drop, inl, inr, arith}
use Rattle.std.proofs.lemmas.Bool.Decides.{eqb_tells}
use Rattle.std.proofs.lemmas.List.{take_all, drop_all}
use Rattle.cv_stand.specs.Lines.{lines_of}

-- the first line ends at the first line feed
pub first_line_at : (xs : List ℕ) (i : ℕ) → i < length xs → ((k : ℕ) → k < i → get_or xs k 0 ≡ 10 → ⊥) → get_or xs i 0 ≡ 10 → lines_of xs ≡ take (suc i) xs ∷ lines_of (drop (suc i) xs)
first_line_at [] i lt none is = absurd (omega arith)
first_line_at (x ∷ xs) zero lt none is = rw is
first_line_at (x ∷ xs) (suc i) lt none is = elim (eqb_tells x 10) [
  | inl p ↦ absurd (none 0 (omega arith) p.1)
  | inr q ↦ rw (q.0, first_line_at xs i (omega arith) (λ k l e. none (suc k) (omega arith) e) is)
]

-- with no line feed there is one line
one_line : (x : ℕ) (xs : List ℕ) → ((k : ℕ) → k < suc (length xs) → get_or (x ∷ xs) k 0 ≡ 10 → ⊥) → lines_of (x ∷ xs) ≡ (x ∷ xs) ∷ []
one_line x [] none = elim (eqb_tells x 10) [ inl p ↦ absurd (none 0 (omega arith) p.1) | inr q ↦ rw q.0 ]
one_line x (y ∷ xs) none = elim (eqb_tells x 10) [
  | inl p ↦ absurd (none 0 (omega arith) p.1)
  | inr q ↦ rw (q.0, one_line y xs (λ k l e. none (suc k) (omega arith) e))
]

pub one_line_whole : (xs : List ℕ) → 0 < length xs → ((k : ℕ) → k < length xs → get_or xs k 0 ≡ 10 → ⊥) → lines_of xs ≡ take (length xs) xs ∷ lines_of (drop (length xs) xs)
one_line_whole [] lt none = absurd (omega arith)
one_line_whole (x ∷ xs) lt none =
    rw (take_all (length (x ∷ xs)) (x ∷ xs) (omega arith), drop_all (length (x ∷ xs)) (x ∷ xs) (omega arith)) (one_line x xs none)
