-- For callers: which items the list of a tree has after a change, and whose owners a search hits.
use Rattle.std.proofs.Common.{◌≡◌, ◌≢◌, ℕ, zero, suc, ◌<◌, Bool, true, false, cond, ◌⊎◌, inl, inr, List, [], ◌∷◌, length, refl, ◌∙◌, subst, arith}
use Rattle.std.specs.Prelude.{Contains, map, filter, slice_index_or}
use Rattle.std.specs.Ordering.{is_eq}
use Rattle.std.proofs.lemmas.List.Elements.{Contains-append_right}
use Rattle.cv_keys.specs.Intervals.{contains}
use Rattle.range_tree.specs.Ranges.{Owned, owned_cmp, owned_lt, inserted, removed, owners_at}
use Rattle.range_tree.proofs.Removed.{equal_same}

module _ {X : Type 0} where
  first : (x : X) (xs : List X) → Contains (x ∷ xs) x
  first x xs = (0, omega arith, refl)

  behind : (x : X) (xs : List X) (y : X) → Contains xs y → Contains (x ∷ xs) y
  behind x xs y c = Contains-append_right (x ∷ []) xs y c

  at : (x : X) (xs : List X) (y : X) (k : ℕ) → k < length (x ∷ xs) → slice_index_or (x ∷ xs) k y ≡ y → (x ≡ y) ⊎ Contains xs y
  at x xs y zero below e = inl e
  at x xs y (suc k) below e = inr (k, omega arith, e)

  first_or_behind : (x : X) (xs : List X) (y : X) → Contains (x ∷ xs) y → (x ≡ y) ⊎ Contains xs y
  first_or_behind x xs y c = at x xs y c.0 c.1 c.2

  none : (y : X) → Contains [] y → ⊥
  none y c = omega (arith, c.1)

-- what was put in is there
pub inserted_has : (x : Owned) (xs : List Owned) → Contains (inserted x xs) x
inserted_has x [] = first x []
inserted_has x (y ∷ ys) =
    elim (owned_lt x y) as (λ b. Contains (cond b (x ∷ y ∷ ys) (y ∷ inserted x ys)) x) [
      | true ↦ first x (y ∷ ys)
      | false ↦ behind y (inserted x ys) x (inserted_has x ys)
    ]

-- what was there stays where something is put in
pub inserted_keeps : (x y : Owned) (xs : List Owned) → Contains xs y → Contains (inserted x xs) y
inserted_keeps x y [] c = absurd (none y c)
inserted_keeps x y (z ∷ zs) c =
    elim (owned_lt x z) as (λ b. Contains (cond b (x ∷ z ∷ zs) (z ∷ inserted x zs)) y) [
      | true ↦ behind x (z ∷ zs) y c
      | false ↦ elim (first_or_behind z zs y c) [
        | inl e ↦ subst (Contains (z ∷ inserted x zs)) e (first z (inserted x zs))
        | inr d ↦ behind z (inserted x zs) y (inserted_keeps x y zs d)
      ]
    ]

-- and nothing else comes in
pub inserted_only : (x y : Owned) (xs : List Owned) → Contains (inserted x xs) y → (x ≡ y) ⊎ Contains xs y
inserted_only x y [] c = first_or_behind x [] y c
inserted_only x y (z ∷ zs) member =
    (elim (owned_lt x z) as (λ b. Contains (cond b (x ∷ z ∷ zs) (z ∷ inserted x zs)) y → (x ≡ y) ⊎ Contains (z ∷ zs) y) [
      | true ↦ λ c. first_or_behind x (z ∷ zs) y c
      | false ↦ λ c. elim (first_or_behind z (inserted x zs) y c) [
        | inl e ↦ inr (subst (Contains (z ∷ zs)) e (first z zs))
        | inr d ↦ elim (inserted_only x y zs d) [
          | inl f ↦ inl f
          | inr g ↦ inr (behind z zs y g)
        ]
      ]
    ]) member

-- all but what is taken out stays
pub removed_keeps : (x y : Owned) (xs : List Owned) → x ≢ y → Contains xs y → Contains (removed x xs) y
removed_keeps x y [] n c = absurd (none y c)
removed_keeps x y (z ∷ zs) n c =
    (elim (is_eq (owned_cmp x z)) as (λ b. is_eq (owned_cmp x z) ≡ b → Contains (cond b zs (z ∷ removed x zs)) y) [
      | true ↦ λ same. elim (first_or_behind z zs y c) [
        | inl e ↦ absurd (n (equal_same x z (owned_cmp x z) refl same ∙ e))
        | inr d ↦ d
      ]
      | false ↦ λ other. elim (first_or_behind z zs y c) [
        | inl e ↦ subst (Contains (z ∷ removed x zs)) e (first z (removed x zs))
        | inr d ↦ behind z (removed x zs) y (removed_keeps x y zs n d)
      ]
    ]) refl

-- and nothing comes in
pub removed_only : (x y : Owned) (xs : List Owned) → Contains (removed x xs) y → Contains xs y
removed_only x y [] c = c
removed_only x y (z ∷ zs) member =
    (elim (is_eq (owned_cmp x z)) as (λ b. Contains (cond b zs (z ∷ removed x zs)) y → Contains (z ∷ zs) y) [
      | true ↦ λ c. behind z zs y c
      | false ↦ λ c. elim (first_or_behind z (removed x zs) y c) [
        | inl e ↦ subst (Contains (z ∷ zs)) e (first z zs)
        | inr d ↦ behind z zs y (removed_only x y zs d)
      ]
    ]) member

module _ (table index : ℕ) (key : List ℕ) where
  abbrev holds : Owned → Bool
  holds i = contains i.0 table index key

  abbrev owners : List Owned → List ℕ
  owners = owners_at table index key

  -- the owner of an interval that contains the key is hit
  pub owners_have : (i : Owned) (xs : List Owned) → Contains xs i → holds i ≡ true → Contains (owners xs) i.1
  owners_have i [] c h = absurd (none i c)
  owners_have i (x ∷ xs) c h =
      (elim (holds x) as (λ b. holds x ≡ b → Contains (map (λ (j : Owned). j.1) (cond b (x ∷ filter holds xs) (filter holds xs))) i.1) [
        | true ↦ λ yes. elim (first_or_behind x xs i c) [
          | inl e ↦ subst (λ (j : Owned). Contains (x.1 ∷ owners xs) j.1) e (first x.1 (owners xs))
          | inr d ↦ behind x.1 (owners xs) i.1 (owners_have i xs d h)
        ]
        | false ↦ λ no. elim (first_or_behind x xs i c) [
          | inl e ↦ let at_i : holds i ≡ false = subst (λ (j : Owned). holds j ≡ false) e no in cc
          | inr d ↦ owners_have i xs d h
        ]
      ]) refl

  -- and no other
  pub owners_only : (owner : ℕ) (xs : List Owned) → Contains (owners xs) owner → (i : Owned) × Contains xs i × (holds i ≡ true) × (i.1 ≡ owner)
  owners_only owner [] c = absurd (none owner c)
  owners_only owner (x ∷ xs) member =
      (elim (holds x) as (λ b. holds x ≡ b → Contains (map (λ (j : Owned). j.1) (cond b (x ∷ filter holds xs) (filter holds xs))) owner → (i : Owned) × Contains (x ∷ xs) i × (holds i ≡ true) × (i.1 ≡ owner)) [
        | true ↦ λ yes c. elim (first_or_behind x.1 (owners xs) owner c) [
          | inl e ↦ (x, first x xs, yes, e)
          | inr d ↦ let r = owners_only owner xs d in (r.0, behind x xs r.0 r.1, r.2, r.3)
        ]
        | false ↦ λ no c. let r = owners_only owner xs c in (r.0, behind x xs r.0 r.1, r.2, r.3)
      ]) refl member
