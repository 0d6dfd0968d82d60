-- Entries that go number by number.
use Rattle.std.proofs.Common.{◌≡◌, ℕ, ◌+◌, ◌<◌, ◌≤◌, Bool, true, false, not, ◌&&◌, ◌||◌, ◌==◌, nat_lt, cond, ◌⊎◌, inl, inr, List, [], ◌∷◌, length, filter, get_or, set, refl, sym, ap, ◌∙◌, subst, arith}
use Rattle.std.proofs.lemmas.Bool.{cases_lt, lt-ltb, le-ltb, and_right}
use Rattle.std.proofs.lemmas.List.{get_or_past}
use Rattle.cv_cache.proofs.Hits.{down_set}
use Rattle.cv_cache.specs.Flags.{is_up, AreDown}
use Rattle.cv_cache.specs.Numbers.{without_number}
use Rattle.cv_cache.specs.Recent.{Held, untouched}

-- the number is below k and touched
abbrev pub up_to : (ℕ → Bool) → ℕ → ℕ → Bool
up_to touched k n = nat_lt n k && touched n

-- two tests that agree at each number leave the same
pub same_untouched : (p q : ℕ → Bool) (es : List Held) → ((n : ℕ) → p n ≡ q n) → untouched p es ≡ untouched q es
same_untouched p q [] h = refl
same_untouched p q (e ∷ es) h = rw (h e.1.owner, same_untouched p q es h) refl

none_untouched : (p : ℕ → Bool) (es : List Held) → ((n : ℕ) → p n ≡ false) → untouched p es ≡ es
none_untouched p [] h = refl
none_untouched p (e ∷ es) h = rw (h e.1.owner) (ap (λ r. e ∷ r) (none_untouched p es h))

pub nothing_touched : (p : ℕ → Bool) (es : List Held) → ((n : ℕ) → p n ≡ false) → es ≡ untouched p es
nothing_touched p es h = sym (none_untouched p es h)

below_0 : (touched : ℕ → Bool) (n : ℕ) → up_to touched 0 n ≡ false
below_0 touched n = grind arith

pub none_before_0 : (touched : ℕ → Bool) (es : List Held) → es ≡ untouched (up_to touched 0) es
none_before_0 touched es = nothing_touched (up_to touched 0) es (below_0 touched)

pub without_untouched : (p : ℕ → Bool) (n : ℕ) (es : List Held) → without_number n (untouched p es) ≡ untouched (λ m. p m || (n == m)) es
without_untouched p n [] = refl
without_untouched p n (e ∷ es) =
    (elim (p e.1.owner) as (λ b. without_number n (cond (not b) (e ∷ untouched p es) (untouched p es)) ≡ cond (not (b || (n == e.1.owner))) (e ∷ untouched (λ m. p m || (n == m)) es) (untouched (λ m. p m || (n == m)) es)) [
      | true ↦ without_untouched p n es
      | false ↦ elim (n == e.1.owner) as (λ b. cond (not b) (e ∷ without_number n (untouched p es)) (without_number n (untouched p es)) ≡ cond (not b) (e ∷ untouched (λ m. p m || (n == m)) es) (untouched (λ m. p m || (n == m)) es)) [
        | true ↦ without_untouched p n es
        | false ↦ ap (λ r. e ∷ r) (without_untouched p n es)
      ]
    ])

-- one number more, which is touched
pub up_to_touched : (touched : ℕ → Bool) (k m : ℕ) → touched k ≡ true → (up_to touched k m || (k == m)) ≡ up_to touched (k + 1) m
up_to_touched touched k m t = grind arith

-- one number more, which is not
pub up_to_spared : (touched : ℕ → Bool) (k m : ℕ) → touched k ≡ false → up_to touched k m ≡ up_to touched (k + 1) m
up_to_spared touched k m t = grind arith

pub up_to_all : (touched : ℕ → Bool) (k m : ℕ) → ((n : ℕ) → k ≤ n → touched n ≡ false) → up_to touched k m ≡ touched m
up_to_all touched k m past = grind arith

-- ---- the step of a sweep

pub swept : (touched : ℕ → Bool) (k : ℕ) (es now next : List Held) → now ≡ untouched (up_to touched k) es → touched k ≡ true → next ≡ without_number k now → next ≡ untouched (up_to touched (k + 1)) es
swept touched k es now next before t gone =
    gone ∙ ap (without_number k) before
    ∙ without_untouched (up_to touched k) k es
    ∙ same_untouched (λ m. up_to touched k m || (k == m)) (up_to touched (k + 1)) es (λ m. up_to_touched touched k m t)

pub spared : (touched : ℕ → Bool) (k : ℕ) (es now : List Held) → now ≡ untouched (up_to touched k) es → touched k ≡ false → now ≡ untouched (up_to touched (k + 1)) es
spared touched k es now before t = before ∙ same_untouched (up_to touched k) (up_to touched (k + 1)) es (λ m. up_to_spared touched k m t)

pub all_swept : (flags : List Bool) (es now : List Held) → now ≡ untouched (up_to (is_up flags) (length flags)) es → now ≡ untouched (is_up flags) es
all_swept flags es now before = before ∙ same_untouched (up_to (is_up flags) (length flags)) (is_up flags) es (λ m. up_to_all (is_up flags) (length flags) m (λ n h. get_or_past flags n false h))

-- the flags below k are down
abbrev pub AreLowered : (before now : List Bool) → ℕ → Type 0
AreLowered before now k = (n : ℕ) → is_up now n ≡ (not (nat_lt n k) && is_up before n)

not_below : (k : ℕ) (b : Bool) → (not (nat_lt k k) && b) ≡ b
not_below k b = rw (le-ltb k k (omega arith)) refl

pub still_up : (before now : List Bool) (k : ℕ) → AreLowered before now k → is_up now k ≡ is_up before k
still_up before now k lowered = lowered k ∙ not_below k (is_up before k)

one_lower : (k n : ℕ) (b : Bool) → (not (k == n) && (not (nat_lt n k) && b)) ≡ (not (nat_lt n (k + 1)) && b)
one_lower k n b = grind arith

pub lowered : (before now : List Bool) (k : ℕ) → k < length now → AreLowered before now k → AreLowered before (set now k false) (k + 1)
lowered before now k within low n = down_set now k n within ∙ ap (λ b. not (k == n) && b) (low n) ∙ one_lower k n (is_up before n)

none_low : (n : ℕ) (b : Bool) → b ≡ (not (nat_lt n 0) && b)
none_low n b = grind arith

pub none_lowered : (flags : List Bool) → AreLowered flags flags 0
none_lowered flags n = none_low n (is_up flags n)

pub all_lowered : (before now : List Bool) → AreLowered before now (length before) → AreDown now
all_lowered before now low n = low n ∙ elim (cases_lt n (length before)) [
  | inl lt ↦ rw (lt-ltb n (length before) lt) refl
  | inr ge ↦ rw (get_or_past before n false ge) (and_right (not (nat_lt n (length before))) false refl)
]
