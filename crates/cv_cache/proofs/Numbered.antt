-- Entries of distinct queries and distinct numbers.
use Rattle.std.proofs.Common.{◌≡◌, ◌↔◌, ℕ, zero, suc, ◌+◌, ◌<◌, ◌≤◌, Bool, true, false, not, ◌==◌, cond, ◌⊎◌, inl, inr, List, [], ◌∷◌, length, filter, take, slice_get, map, Option, Some, None, option_map, refl, sym, ap, subst, ◌∙◌, arith}
use Rattle.std.proofs.lemmas.Bool.{eqb-true, eq-eqb}
use Rattle.std.proofs.lemmas.Bool.Decides.{eqb_tells}
use Rattle.std.proofs.lemmas.List.{take_all}
use Rattle.std.proofs.lemmas.Option.{slice_get_cases}
use Rattle.std.specs.List.{AllByRecursion, IsDistinct}
use Rattle.std.specs.Map.{keys_of, lookup}
use Rattle.std.specs.Option.{option_map_or}
use Rattle.cv_cache.proofs.Keyed.{others, NoneIs, all_others, none_looked_up}
use Rattle.cv_cache.specs.Numbers.{of_number, query_of, without_number, numbers_of}
use Rattle.cv_cache.specs.Recent.{Held}
use Rattle.cv_cache.specs.declared.kept.Kept.{Kept}
use Rattle.fn_tree.specs.declared.stop.Query.{Query}

-- ---- numbers

pub apart_false : (a b : ℕ) → (a ≡ b → ⊥) → (a == b) ≡ false
apart_false a b ne = elim (eqb_tells a b) [ inl p ↦ absurd (ne p.1) | inr p ↦ p.0 ]

pub not_same : (a b : ℕ) → (a == b) ≡ false → a ≡ b → ⊥
not_same a b e p = let t = eq-eqb a b p in cc

cond_kept : {X : Type 0} (b : Bool) (x y z : X) → cond b x z ≡ cond b x (cond b y z)
cond_kept true x y z = refl
cond_kept false x y z = refl

cond_same : {X : Type 0} (b : Bool) (x : X) → x ≡ cond b x x
cond_same true x = refl
cond_same false x = refl

-- two tests that do not hold at once
cond_swap : {X : Type 0} (a b : Bool) (x y z : X) → (a ≡ true → b ≡ false) → cond b y (cond a x z) ≡ cond a x (cond b y z)
cond_swap true true x y z h = let e = h refl in cc
cond_swap true false x y z h = refl
cond_swap false true x y z h = refl
cond_swap false false x y z h = refl

-- no entry has the number
abbrev pub NoneOf : ℕ → List Held → Type 0
NoneOf n es = AllByRecursion (λ m. (n == m) ≡ false) (numbers_of es)

module _ {X : Type 0} (f : Held → X) (none : X) where
  -- without the entries of a number it gives nothing, and the others what they gave
  pub of_number-without : (n m : ℕ) (es : List Held) → of_number f none (without_number n es) m ≡ cond (m == n) none (of_number f none es m)
  of_number-without n m [] = cond_same (m == n) none
  of_number-without n m (e ∷ es) =
      let before = of_number-without n m es in
      elim (eqb_tells n e.1.owner) [
        | inl p ↦ rw p.0 (before ∙ subst (λ o. cond (m == n) none (of_number f none es m) ≡ cond (m == n) none (cond (m == o) (f e) (of_number f none es m))) p.1 (cond_kept (m == n) none (f e) (of_number f none es m)))
        | inr p ↦ rw p.0 (ap (λ r. cond (m == e.1.owner) (f e) r) before ∙ cond_swap (m == n) (m == e.1.owner) none (f e) (of_number f none es m) (λ t. apart_false m e.1.owner (λ s. p.1 (sym (eqb-true m n t) ∙ s))))
      ]

  pub of_number-none : (n : ℕ) (es : List Held) → NoneOf n es → of_number f none es n ≡ none
  of_number-none n [] h = refl
  of_number-none n (e ∷ es) h = rw h.0 (of_number-none n es h.1)

pub none_of : (n : ℕ) (es : List Held) → query_of es n ≡ None → NoneOf n es
none_of n [] h = tt
none_of n (e ∷ es) h = (elim (n == e.1.owner) as (λ b. (n == e.1.owner) ≡ b → NoneOf n (e ∷ es)) [
  | true ↦ λ t. absurd (let h' = rw t at h in cc)
  | false ↦ λ t. (t, none_of n es (rw t at h))
]) refl

pub all_without : (n : ℕ) (es : List Held) → NoneOf n es → without_number n es ≡ es
all_without n [] h = refl
all_without n (e ∷ es) h = rw h.0 (ap (λ r. e ∷ r) (all_without n es h.1))

-- what holds of each number holds of those that stay
pub numbers_stay : (P : ℕ → Type 0) (n : ℕ) (es : List Held) → AllByRecursion P (numbers_of es) → AllByRecursion P (numbers_of (without_number n es))
numbers_stay P n [] h = tt
numbers_stay P n (e ∷ es) h = (elim (n == e.1.owner) as (λ b. (n == e.1.owner) ≡ b → AllByRecursion P (numbers_of (without_number n (e ∷ es)))) [
  | true ↦ λ t. rw t (numbers_stay P n es h.1)
  | false ↦ λ t. rw t (h.0, numbers_stay P n es h.1)
]) refl

pub apart_without : (n : ℕ) (es : List Held) → IsDistinct ◌==◌ (numbers_of es) → IsDistinct ◌==◌ (numbers_of (without_number n es))
unfolding IsDistinct
apart_without n [] d = tt
apart_without n (e ∷ es) d = (elim (n == e.1.owner) as (λ b. (n == e.1.owner) ≡ b → IsDistinct ◌==◌ (numbers_of (without_number n (e ∷ es)))) [
  | true ↦ λ t. rw t (apart_without n es d.1)
  | false ↦ λ t. rw t (numbers_stay (λ m. (e.1.owner == m) ≡ false) n es d.0, apart_without n es d.1)
]) refl

pub none_without : (n : ℕ) (es : List Held) → NoneOf n (without_number n es)
none_without n [] = tt
none_without n (e ∷ es) = (elim (n == e.1.owner) as (λ b. (n == e.1.owner) ≡ b → NoneOf n (without_number n (e ∷ es))) [
  | true ↦ λ t. rw t (none_without n es)
  | false ↦ λ t. rw t (rw t refl, none_without n es)
]) refl

pub apart_with : (e : Held) (es : List Held) → NoneOf e.1.owner es → IsDistinct ◌==◌ (numbers_of es) → IsDistinct ◌==◌ (numbers_of (e ∷ es))
unfolding IsDistinct
apart_with e es h d = (h, d)

apart_head : (e : Held) (es : List Held) → IsDistinct ◌==◌ (numbers_of (e ∷ es)) → NoneOf e.1.owner es
unfolding IsDistinct
apart_head e es d = d.0

apart_tail : (e : Held) (es : List Held) → IsDistinct ◌==◌ (numbers_of (e ∷ es)) → IsDistinct ◌==◌ (numbers_of es)
unfolding IsDistinct
apart_tail e es d = d.1

swapped : (n m : ℕ) → (n == m) ≡ false → (m == n) ≡ false
swapped n m h = apart_false m n (λ e. not_same n m h (sym e))

-- the entry is the one of its number, for a value that each entry gives
abbrev pub IsOwn : {X : Type 0} → (Held → X) → X → Held → List Held → Type 0
IsOwn f none e es = of_number f none es e.1.owner ≡ f e

-- ---- entries by place

number_at : (P : ℕ → Type 0) (n : ℕ) (es : List Held) (l : Held) → AllByRecursion P (numbers_of es) → slice_get es n ≡ Some l → P l.1.owner
number_at P n [] l a h = absurd (cc)
number_at P zero (e ∷ es) l a h = let same : e ≡ l = cc in subst (λ (k : Held). P k.1.owner) same a.0
number_at P (suc n) (e ∷ es) l a h = number_at P n es l a.1 h

module _ {X : Type 0} (f : Held → X) (none : X) where
  pub place_is_own : (n : ℕ) (es : List Held) (l : Held) → IsDistinct ◌==◌ (numbers_of es) → slice_get es n ≡ Some l → IsOwn f none l es
  place_is_own n [] l d h = absurd (cc)
  place_is_own zero (e ∷ es) l d h =
      let same : e ≡ l = cc in
      subst (λ (k : Held). of_number f none (e ∷ es) k.1.owner ≡ f k) same (rw (eq-eqb e.1.owner e.1.owner refl) refl)
  place_is_own (suc n) (e ∷ es) l d h =
      let rest = place_is_own n es l (apart_tail e es d) h in
      let other = number_at (λ m. (e.1.owner == m) ≡ false) n es l (apart_head e es d) h in
      rw (swapped e.1.owner l.1.owner other) rest

-- what holds of the entry at each place holds of each entry
pub at_each_place : (P : Held → Type 0) (es : List Held) → ((n : ℕ) (e : Held) → slice_get es n ≡ Some e → P e) → AllByRecursion P es
at_each_place P [] h = tt
at_each_place P (e ∷ es) h = (h zero e refl, at_each_place P es (λ n f g. h (suc n) f g))

pub all_but_last : (n : ℕ) (es : List Held) (l : Held) → IsDistinct ◌==◌ (numbers_of es) → length es ≤ suc n → slice_get es n ≡ Some l → take n es ≡ without_number l.1.owner es
all_but_last n [] l d few h = absurd (cc)
all_but_last zero (e ∷ []) l d few h =
    let same : e ≡ l = cc in
    subst (λ (k : Held). [] ≡ without_number k.1.owner (e ∷ [])) same (rw (eq-eqb e.1.owner e.1.owner refl) refl)
all_but_last zero (e ∷ f ∷ es) l d few h = absurd (omega arith)
all_but_last (suc n) (e ∷ es) l d few h =
    let rest = all_but_last n es l (apart_tail e es d) (omega arith) h in
    let other = number_at (λ m. (e.1.owner == m) ≡ false) n es l (apart_head e es d) h in
    rw (swapped e.1.owner l.1.owner other) (ap (λ r. e ∷ r) rest)

-- ---- queries

module _ (eq : Query → Query → Bool) (exact : (q r : Query) → (eq q r ≡ true) ↔ (q ≡ r)) where
  differs : (q r : Query) → (q ≡ r → ⊥) → eq q r ≡ false
  differs q r ne = (elim (eq q r) as (λ b. eq q r ≡ b → eq q r ≡ false) [ true ↦ λ t. absurd (ne ((exact q r).0 t)) | false ↦ λ t. t ]) refl

  turned : (q r : Query) → eq q r ≡ false → eq r q ≡ false
  turned q r h = differs r q (λ e. let t = (exact q r).1 (sym e) in cc)

  once_head : (e : Held) (es : List Held) → IsDistinct eq (keys_of (e ∷ es)) → AllByRecursion (λ r. eq e.0 r ≡ false) (keys_of es)
  unfolding IsDistinct
  once_head e es d = d.0

  once_tail : (e : Held) (es : List Held) → IsDistinct eq (keys_of (e ∷ es)) → IsDistinct eq (keys_of es)
  unfolding IsDistinct
  once_tail e es d = d.1

  number_found : (P : ℕ → Type 0) (q : Query) (es : List Held) (k : Kept) → AllByRecursion P (numbers_of es) → lookup (eq q) es ≡ Some k → P k.owner
  number_found P q [] k a h = absurd (cc)
  number_found P q (e ∷ es) k a h = (elim (eq q e.0) as (λ b. eq q e.0 ≡ b → P k.owner) [
    | true ↦ λ t. let h' = rw t at h in let same : e.1 ≡ k = cc in subst (λ (j : Kept). P j.owner) same a.0
    | false ↦ λ t. number_found P q es k a.1 (rw t at h)
  ]) refl

  query_found : (P : Query → Type 0) (n : ℕ) (es : List Held) (q : Query) → AllByRecursion P (keys_of es) → query_of es n ≡ Some q → P q
  query_found P n [] q a h = absurd (cc)
  query_found P n (e ∷ es) q a h = (elim (n == e.1.owner) as (λ b. (n == e.1.owner) ≡ b → P q) [
    | true ↦ λ t. let h' = rw t at h in let same : e.0 ≡ q = cc in subst P same a.0
    | false ↦ λ t. query_found P n es q a.1 (rw t at h)
  ]) refl

  -- the entry that a query finds is the one of its number
  pub found_is_own : {X : Type 0} (f : Held → X) (none : X) (q : Query) (es : List Held) (k : Kept) → IsDistinct ◌==◌ (numbers_of es) → lookup (eq q) es ≡ Some k → IsOwn f none (q, k) es
  found_is_own f none q [] k d h = absurd (cc)
  found_is_own f none q (e ∷ es) k d h = (elim (eq q e.0) as (λ b. eq q e.0 ≡ b → IsOwn f none (q, k) (e ∷ es)) [
    | true ↦ λ t.
        let h' = rw t at h in
        let same : e.1 ≡ k = cc in
        let one : e ≡ (q, k) = (λ i. ((sym ((exact q e.0).0 t)) i, same i)) in
        subst (λ (g : Held). of_number f none (e ∷ es) g.1.owner ≡ f g) one (rw (eq-eqb e.1.owner e.1.owner refl) refl)
    | false ↦ λ t.
        let rest = found_is_own f none q es k (apart_tail e es d) (rw t at h) in
        let other = number_found (λ m. (e.1.owner == m) ≡ false) q es k (apart_head e es d) (rw t at h) in
        rw (swapped e.1.owner k.owner other) rest
  ]) refl

  -- and the entries of other queries are those of other numbers
  pub others_by_number : (q : Query) (es : List Held) (k : Kept) → IsDistinct eq (keys_of es) → IsDistinct ◌==◌ (numbers_of es) → lookup (eq q) es ≡ Some k → others eq (λ q r e. (exact q r).0 e) q es ≡ without_number k.owner es
  others_by_number q [] k once d h = absurd (cc)
  others_by_number q (e ∷ es) k once d h = (elim (eq q e.0) as (λ b. eq q e.0 ≡ b → others eq (λ q r e. (exact q r).0 e) q (e ∷ es) ≡ without_number k.owner (e ∷ es)) [
    | true ↦ λ t.
        let h' = rw t at h in
        let same : e.1 ≡ k = cc in
        let here : (k.owner == e.1.owner) ≡ true = eq-eqb _ _ (sym (ap (λ (j : Kept). j.owner) same)) in
        let no_query : NoneIs eq (λ q r e. (exact q r).0 e) q es = subst (λ r. AllByRecursion (λ s. eq r s ≡ false) (keys_of es)) (sym ((exact q e.0).0 t)) (once_head e es once) in
        let no_number : NoneOf k.owner es = subst (λ (j : Kept). NoneOf j.owner es) same (apart_head e es d) in
        rw (t, here) (all_others eq (λ q r e. (exact q r).0 e) q es no_query ∙ sym (all_without k.owner es no_number))
    | false ↦ λ t.
        let rest = others_by_number q es k (once_tail e es once) (apart_tail e es d) (rw t at h) in
        let other = swapped e.1.owner k.owner (number_found (λ m. (e.1.owner == m) ≡ false) q es k (apart_head e es d) (rw t at h)) in
        rw (t, other) (ap (λ r. e ∷ r) rest)
  ]) refl

  -- the query of a number finds the entry of that number
  pub number_finds : (n : ℕ) (es : List Held) (q : Query) → IsDistinct eq (keys_of es) → query_of es n ≡ Some q → (k : Kept) × (lookup (eq q) es ≡ Some k) × (k.owner ≡ n)
  number_finds n [] q once h = absurd (cc)
  number_finds n (e ∷ es) q once h = (elim (n == e.1.owner) as (λ b. (n == e.1.owner) ≡ b → (k : Kept) × (lookup (eq q) (e ∷ es) ≡ Some k) × (k.owner ≡ n)) [
    | true ↦ λ t.
        let h' = rw t at h in
        let same : e.0 ≡ q = cc in
        let here : eq q e.0 ≡ true = (exact q e.0).1 (sym same) in
        (e.1, rw here refl, sym (eqb-true n e.1.owner t))
    | false ↦ λ t.
        let rest = number_finds n es q (once_tail e es once) (rw t at h) in
        let other : eq q e.0 ≡ false = turned e.0 q (query_found (λ r. eq e.0 r ≡ false) n es q (once_head e es once) (rw t at h)) in
        (rest.0, rw other rest.1, rest.2)
  ]) refl
