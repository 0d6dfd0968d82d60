-- The flags that are up where owners are hit.
use Rattle.std.proofs.Common.{◌≡◌, ℕ, zero, suc, ◌<◌, ◌≤◌, Bool, true, false, not, ◌&&◌, ◌||◌, ◌==◌, nat_lt, cond, ◌⊎◌, inl, inr, List, [], ◌∷◌, ◌++◌, length, set, get_or, refl, sym, ap, subst, ◌∙◌, arith}
use Rattle.std.proofs.Math.ListN.{length-set}
use Rattle.std.specs.Vec.{with_item}
use Rattle.std.proofs.lemmas.Bool.{cases_lt, lt-ltb, le-ltb, ne_eqb}
use Rattle.std.proofs.lemmas.Bool.Decides.{eqb_tells}
use Rattle.std.proofs.lemmas.List.{get_or-set_same, get_or-set_other}
use Rattle.cv_cache.specs.Flags.{is_up, AreDown, raised}
use Rattle.cv_cache.specs.declared.flags.Flags.{Flags}
use Rattle.cv_ranges.specs.Hits.{after_hits, is_among}

or_assoc : (a b c : Bool) → ((a || b) || c) ≡ (a || (b || c))
or_assoc true b c = refl
or_assoc false b c = refl

or_true : (a : Bool) → true ≡ (a || true)
or_true true = refl
or_true false = refl

or_false : (a : Bool) → a ≡ (a || false)
or_false true = refl
or_false false = refl

one_size : (f : Flags) (o : ℕ) → length (raised f o).up.items ≡ length f.up.items
one_size f o = elim (nat_lt o (length f.up.items)) as (λ b. length (cond b (record { up = with_item f.up o true; any = true }) f).up.items ≡ length f.up.items) [
  | true ↦ length-set f.up.items o true
  | false ↦ refl
]

set_up : (flags : List Bool) (o n : ℕ) → o < length flags → is_up (set flags o true) n ≡ (is_up flags n || (o == n))
set_up flags o n within = elim (eqb_tells o n) [
  | inl p ↦ rw (p.0, ← p.1) (get_or-set_same flags o true false within ∙ or_true (is_up flags o))
  | inr p ↦ rw p.0 (get_or-set_other flags o n true false (λ e. p.1 (sym e)) ∙ or_false (is_up flags n))
]

one_up : (f : Flags) (o n : ℕ) → n < length f.up.items → is_up (raised f o).up.items n ≡ (is_up f.up.items n || (o == n))
one_up f o n within = elim (cases_lt o (length f.up.items)) [
  | inl lt ↦ rw (lt-ltb o (length f.up.items) lt) (set_up f.up.items o n lt)
  | inr ge ↦ rw (le-ltb o (length f.up.items) ge, ne_eqb o n (λ e. omega arith)) (or_false (is_up f.up.items n))
]

pub hits_size : (f : Flags) (owners : List ℕ) → length (after_hits raised f owners).up.items ≡ length f.up.items
hits_size f [] = refl
hits_size f (o ∷ owners) = hits_size (raised f o) owners ∙ one_size f o

-- a flag is up where it was, and where its number was hit
pub hits_up : (f : Flags) (owners : List ℕ) (n : ℕ) → n < length f.up.items → is_up (after_hits raised f owners).up.items n ≡ (is_up f.up.items n || is_among n owners)
hits_up f [] n within = or_false (is_up f.up.items n)
hits_up f (o ∷ owners) n within =
    let still : n < length (raised f o).up.items = omega (arith, within, one_size f o) in
    hits_up (raised f o) owners n still
    ∙ ap (λ b. b || is_among n owners) (one_up f o n within)
    ∙ or_assoc (is_up f.up.items n) (o == n) (is_among n owners)

-- once a flag was raised, that is told
any_stays : (f : Flags) (owners : List ℕ) → f.any ≡ true → (after_hits raised f owners).any ≡ true
any_stays f [] t = t
any_stays f (o ∷ owners) t = any_stays (raised f o) owners (one f o t)
  where
    one : (f : Flags) (o : ℕ) → f.any ≡ true → (raised f o).any ≡ true
    one f o t = elim (nat_lt o (length f.up.items)) as (λ b. (cond b (record { up = with_item f.up o true; any = true }) f).any ≡ true) [ true ↦ refl | false ↦ t ]

-- where none is told, none is up
pub hits_none : (f : Flags) (owners : List ℕ) → AreDown f.up.items → (after_hits raised f owners).any ≡ false → AreDown (after_hits raised f owners).up.items
hits_none f [] down none = down
hits_none f (o ∷ owners) down none = elim (cases_lt o (length f.up.items)) [
  | inl lt ↦
      let told : (raised f o).any ≡ true = rw (lt-ltb o (length f.up.items) lt) refl in
      let still = any_stays (raised f o) owners told in
      absurd (cc)
  | inr ge ↦
      let same : raised f o ≡ f = rw (le-ltb o (length f.up.items) ge) refl in
      hits_none (raised f o) owners (subst (λ g. AreDown g.up.items) (sym same) down) none
]

-- with one flag more, which is down
pub down_more : (flags : List Bool) → AreDown flags → AreDown (flags ++ false ∷ [])
down_more [] down zero = refl
down_more [] down (suc n) = refl
down_more (b ∷ flags) down zero = down zero
down_more (b ∷ flags) down (suc n) = down_more flags (λ m. down (suc m)) n

-- with one flag down
pub down_set : (flags : List Bool) (k n : ℕ) → k < length flags → is_up (set flags k false) n ≡ (not (k == n) && is_up flags n)
down_set flags k n within = elim (eqb_tells k n) [
  | inl p ↦ rw (p.0, ← p.1) (get_or-set_same flags k false false within)
  | inr p ↦ rw p.0 (get_or-set_other flags k n false false (λ e. p.1 (sym e)))
]
