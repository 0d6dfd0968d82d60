-- What is consumed of rows in order is known from the part of them that the read tells of.
use Rattle.std.proofs.Common.{◌≡◌, ℕ, suc, ◌+◌, Bool, true, false, cond, List, [], ◌∷◌, ◌++◌, length, Option, refl, sym, ap, ◌∙◌, subst, arith, append_assoc, append-nil}
use Rattle.std.specs.Prelude.{filter, reverse}
use Rattle.std.specs.declared.cmp.Ordering.{Ordering}
use Rattle.std.specs.Ordering.{is_gt, flip_args}
use Rattle.std.specs.Cmp.{IsTotalOrder}
use Rattle.std.proofs.lemmas.Bool.{cond_both, cond-true}
use Rattle.std.proofs.lemmas.List.Elements.{filter-append}
use mathlib.Core.List.{reverse-cons}
use Rattle.cv_values.specs.declared.doc.Doc.{Doc}
use Rattle.fn_tree.specs.Scan.{doc_size, rows_size, is_cut, consumed_after}
use Rattle.fn_tree.specs.declared.stop.Left.{Left}
use Rattle.fn_tree.proofs.Insertions.{IsLow, InOrder}

-- ---- lists in order

module _ {A : Type 0} (R : A → A → Ordering) where
  low_front : (x : A) (xs ys : List A) → IsLow R x (xs ++ ys) → IsLow R x xs
  low_front x [] ys h = tt
  low_front x (z ∷ xs) ys h = (h.0, low_front x xs ys h.1)

  pub in_order_front : (xs ys : List A) → InOrder R (xs ++ ys) → InOrder R xs
  in_order_front [] ys h = tt
  in_order_front (x ∷ xs) ys h = (low_front x xs ys h.0, in_order_front xs ys h.1)

-- what is above none of y passes where y does
abbrev pub GoesDown : {A : Type 0} → (A → A → Ordering) → (A → Bool) → Type 0
GoesDown {A} R f = (x y : A) → is_gt (R x y) ≡ false → f y ≡ true → f x ≡ true

abbrev pub last_in : {A : Type 0} → A → List A → A
last_in x [] = x
last_in x (y ∷ ys) = last_in y ys

module _ {A : Type 0} (R : A → A → Ordering) (f : A → Bool) (down : GoesDown R f) where
  first_passes : (x : A) (xs : List A) → InOrder R (x ∷ xs) → f (last_in x xs) ≡ true → f x ≡ true
  first_passes x [] h e = e
  first_passes x (y ∷ xs) h e = down x y h.0.0 (first_passes y xs h.1 e)

  pub all_pass : (x : A) (xs : List A) → InOrder R (x ∷ xs) → f (last_in x xs) ≡ true → filter f (x ∷ xs) ≡ x ∷ xs
  all_pass x [] h e = cond-true (f x) _ _ e
  all_pass x (y ∷ xs) h e = cond-true (f x) _ _ (first_passes x (y ∷ xs) h e) ∙ ap (λ ys. x ∷ ys) (all_pass y xs h.1 e)

  none_passes : (x : A) (xs : List A) → IsLow R x xs → f x ≡ false → filter f xs ≡ []
  none_passes x [] h e = refl
  none_passes x (y ∷ xs) h e = cond_both (f y) _ _ (λ l. l ≡ []) (λ p. absurd (both_answers (f x) e (down x y h.0 p))) (λ _. none_passes x xs h.1 e)
    where
      both_answers : (b : Bool) → b ≡ false → b ≡ true → ⊥
      both_answers true p q = cc
      both_answers false p q = cc

  -- the passing ones stand in front
  pub passing_front : (xs : List A) → InOrder R xs → (rest : List A) × (xs ≡ filter f xs ++ rest)
  passing_front [] h = ([], refl)
  passing_front (x ∷ xs) h = go (f x) refl (passing_front xs h.1)
    where
      go : (b : Bool) → f x ≡ b → (rest : List A) × (xs ≡ filter f xs ++ rest) → (rest : List A) × (x ∷ xs ≡ cond b (x ∷ filter f xs) (filter f xs) ++ rest)
      go true e r = (r.0, ap (λ ys. x ∷ ys) r.1)
      go false e r = (x ∷ xs, ap (λ ys. ys ++ x ∷ xs) (sym (none_passes x xs h.0 e)))

  -- a front of one list in order is one of another, where the same of both pass
  pub same_front : (x : A) (front rest ys : List A) → InOrder R ((x ∷ front) ++ rest) → InOrder R ys → f (last_in x front) ≡ true
      → filter f ((x ∷ front) ++ rest) ≡ filter f ys → (more : List A) × (ys ≡ (x ∷ front) ++ more)
  same_front x front rest ys h k e same =
      let r = passing_front ys k in
      let passed : filter f ((x ∷ front) ++ rest) ≡ (x ∷ front) ++ filter f rest =
      filter-append f (x ∷ front) rest ∙ ap (λ zs. zs ++ filter f rest) (all_pass x front (in_order_front R (x ∷ front) rest h) e) in
      (filter f rest ++ r.0, r.1 ∙ ap (λ zs. zs ++ r.0) (sym same ∙ passed) ∙ append_assoc (x ∷ front) (filter f rest) r.0)

-- ---- the other way round

module _ {A : Type 0} {R : A → A → Ordering} (o : IsTotalOrder R) where
  low_end : (x : A) (xs : List A) (y : A) → IsLow R x xs → is_gt (R x y) ≡ false → IsLow R x (xs ++ y ∷ [])
  low_end x [] y h e = (e, tt)
  low_end x (z ∷ xs) y h e = (h.0, low_end x xs y h.1 e)

  -- y is below none of xs
  IsHigh : A → List A → Type 0
  IsHigh y [] = Unit {0}
  IsHigh y (x ∷ xs) = (is_gt (R x y) ≡ false) × IsHigh y xs

  in_order_end : (xs : List A) (y : A) → InOrder R xs → IsHigh y xs → InOrder R (xs ++ y ∷ [])
  unfolding IsHigh
  in_order_end [] y h e = (tt, tt)
  in_order_end (x ∷ xs) y h e = (low_end x xs y h.0 e.0, in_order_end xs y h.1 e.1)

high_end : {A : Type 0} {R : A → A → Ordering} (o : IsTotalOrder R) (y : A) (xs : List A) (x : A) → IsHigh o y xs → is_gt (R x y) ≡ false → IsHigh o y (xs ++ x ∷ [])
unfolding IsHigh
high_end o y [] x h e = (e, tt)
high_end o y (z ∷ xs) x h e = (h.0, high_end o y xs x h.1 e)

high_reverse : {A : Type 0} {R : A → A → Ordering} (o : IsTotalOrder R) (y : A) (xs : List A) → IsLow (flip_args R) y xs → IsHigh o y (reverse xs)
unfolding IsHigh
high_reverse o y [] h = tt
high_reverse o y (x ∷ xs) h = subst (IsHigh o y) (sym (reverse-cons x xs)) (high_end o y (reverse xs) x (high_reverse o y xs h.1) h.0)

pub in_order_reverse : {A : Type 0} {R : A → A → Ordering} (o : IsTotalOrder R) (xs : List A) → InOrder (flip_args R) xs → InOrder R (reverse xs)
in_order_reverse o [] h = tt
in_order_reverse {R = R} o (x ∷ xs) h = subst (InOrder R) (sym (reverse-cons x xs)) (in_order_end o (reverse xs) x (in_order_reverse o xs h.1) (high_reverse o x xs h.0))

pub filter-reverse : {A : Type 0} (f : A → Bool) (xs : List A) → filter f (reverse xs) ≡ reverse (filter f xs)
filter-reverse f [] = refl
filter-reverse f (x ∷ xs) =
    ap (filter f) (reverse-cons x xs) ∙ filter-append f (reverse xs) (x ∷ []) ∙ ap (λ l. l ++ filter f (x ∷ [])) (filter-reverse f xs) ∙ last (f x)
  where
    last : (b : Bool) → reverse (filter f xs) ++ cond b (x ∷ []) [] ≡ reverse (cond b (x ∷ filter f xs) (filter f xs))
    last true = sym (reverse-cons x (filter f xs))
    last false = append-nil (reverse (filter f xs))

-- ---- consuming

module _ (most : Option ℕ) (left : Left) where
  -- what is consumed stands in front
  pub consumed_front : (n s : ℕ) (xs : List Doc) → (rest : List Doc) × (xs ≡ consumed_after most left n s xs ++ rest)
  consumed_front n s [] = ([], refl)
  consumed_front n s (x ∷ xs) = go (is_cut most left n s) (consumed_front (suc n) (s + doc_size x) xs)
    where
      found : List Doc
      found = consumed_after most left (suc n) (s + doc_size x) xs

      go : (b : Bool) → (rest : List Doc) × (xs ≡ consumed_after most left (suc n) (s + doc_size x) xs ++ rest)
          → (rest : List Doc) × (x ∷ xs ≡ (elim b [ true ↦ [] | false ↦ x ∷ consumed_after most left (suc n) (s + doc_size x) xs ]) ++ rest)
      go true r = (x ∷ xs, refl)
      go false r = (r.0, ap (λ ys. x ∷ ys) r.1)

  stops_there : (n s : ℕ) (ys : List Doc) → is_cut most left n s ≡ true → consumed_after most left n s ys ≡ []
  stops_there n s [] e = refl
  stops_there n s (y ∷ ys) e = ap (λ (b : Bool). let r : List Doc = elim b [ true ↦ [] | false ↦ y ∷ consumed_after most left (suc n) (s + doc_size y) ys ] in r) e

  at_start : (n s : ℕ) (ys : List Doc) → is_cut most left (n + 0) (s + 0) ≡ true → is_cut most left n s ≡ true
  at_start n s ys e = ap (λ k. is_cut most left k s) n0 ∙ ap (λ k. is_cut most left (n + 0) k) s0 ∙ e
    where
      n0 : n ≡ n + 0
      n0 = omega arith

      s0 : s ≡ s + 0
      s0 = omega arith

  -- of a list with this front the same is consumed, where the read was cut
  pub consumed_again : (n s : ℕ) (xs more : List Doc) →
      is_cut most left (n + length (consumed_after most left n s xs)) (s + rows_size (consumed_after most left n s xs)) ≡ true →
      consumed_after most left n s (consumed_after most left n s xs ++ more) ≡ consumed_after most left n s xs
  consumed_again n s [] more e = stops_there n s more (at_start n s [] e)
  consumed_again n s (x ∷ xs) more e = go (is_cut most left n s) refl (consumed_again (suc n) (s + doc_size x) xs more) e
    where
      found : List Doc
      found = consumed_after most left (suc n) (s + doc_size x) xs

      pick : Bool → List Doc
      pick b = elim b [ true ↦ [] | false ↦ x ∷ found ]

      choice : Bool → List Doc → List Doc
      choice b ys = elim b [ true ↦ [] | false ↦ x ∷ consumed_after most left (suc n) (s + doc_size x) ys ]

      more_rows : n + length (x ∷ found) ≡ suc n + length found
      more_rows = omega arith

      more_size : s + rows_size (x ∷ found) ≡ s + doc_size x + rows_size found
      more_size = omega arith

      go : (b : Bool) → is_cut most left n s ≡ b
          → (is_cut most left (suc n + length found) (s + doc_size x + rows_size found) ≡ true → consumed_after most left (suc n) (s + doc_size x) (found ++ more) ≡ found)
          → is_cut most left (n + length (pick b)) (s + rows_size (pick b)) ≡ true → consumed_after most left n s (pick b ++ more) ≡ pick b
      go true p ih k = stops_there n s more p
      go false p ih k =
          ap (λ b. choice b (found ++ more)) p
          ∙ ap (λ r. x ∷ r) (ih (ap (λ m. is_cut most left m (s + doc_size x + rows_size found)) (sym more_rows) ∙ ap (λ m. is_cut most left (n + length (x ∷ found)) m) (sym more_size) ∙ k))
