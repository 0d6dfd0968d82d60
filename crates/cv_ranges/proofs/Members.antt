-- What stands in a list.
use Rattle.std.proofs.Common.{◌≡◌, ℕ, zero, suc, ◌<◌, ◌⊎◌, inl, inr, List, [], ◌∷◌, length, refl, arith}
use Rattle.std.specs.Prelude.{Contains, slice_index_or}
use Rattle.std.proofs.lemmas.List.Elements.{Contains-append_right}

module _ {X : Type 0} where
  pub first : (x : X) (xs : List X) → Contains (x ∷ xs) x
  first x xs = (0, omega arith, refl)

  pub behind : (x : X) (xs : List X) (y : X) → Contains xs y → Contains (x ∷ xs) y
  behind x xs y c = Contains-append_right (x ∷ []) xs y c

  at : (x : X) (xs : List X) (y : X) (k : ℕ) → k < length (x ∷ xs) → slice_index_or (x ∷ xs) k y ≡ y → (x ≡ y) ⊎ Contains xs y
  at x xs y zero below e = inl e
  at x xs y (suc k) below e = inr (k, omega arith, e)

  pub first_or_behind : (x : X) (xs : List X) (y : X) → Contains (x ∷ xs) y → (x ≡ y) ⊎ Contains xs y
  first_or_behind x xs y c = at x xs y c.0 c.1 c.2

  pub none : (y : X) → Contains [] y → ⊥
  none y c = omega (arith, c.1)
