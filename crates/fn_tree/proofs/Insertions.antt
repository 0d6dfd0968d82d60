-- A list in order keeps its order under an insertion, and a filter goes through one.
use Rattle.std.proofs.Common.{◌≡◌, Bool, true, false, cond, List, [], ◌∷◌, refl, sym, ap, ◌∙◌}
use Rattle.std.specs.Prelude.{filter}
use Rattle.std.specs.declared.cmp.Ordering.{Ordering}
use Rattle.std.specs.declared.cmp.Ordering.TheVariants.{Less, Equal, Greater}
use Rattle.std.specs.Ordering.{is_gt, ordering_reverse}
use Rattle.std.specs.Cmp.{IsTotalOrder}
use Rattle.std.proofs.lemmas.Cmp.{upto}
use Rattle.std.proofs.lemmas.Bool.{cond_both, cond-true, cond-false}
use Rattle.fn_tree.specs.Rows.{placed_in}

-- x is above none of ys
abbrev pub IsLow : {A : Type 0} → (A → A → Ordering) → A → List A → Type 0
IsLow R x [] = Unit {0}
IsLow R x (y ∷ ys) = (is_gt (R x y) ≡ false) × IsLow R x ys

abbrev pub InOrder : {A : Type 0} → (A → A → Ordering) → List A → Type 0
InOrder R [] = Unit {0}
InOrder R (x ∷ xs) = IsLow R x xs × InOrder R xs

greater_back : (r : Ordering) → is_gt r ≡ true → is_gt (ordering_reverse r) ≡ false
greater_back Less e = cc
greater_back Equal e = cc
greater_back Greater e = refl

module _ {A : Type 0} {R : A → A → Ordering} (o : IsTotalOrder R) where
  pub above_back : (x y : A) → is_gt (R x y) ≡ true → is_gt (R y x) ≡ false
  above_back x y e = ap is_gt (o.antisymm y x) ∙ greater_back (R x y) e

  pub low_down : (x y : A) (ys : List A) → is_gt (R x y) ≡ false → IsLow R y ys → IsLow R x ys
  low_down x y [] e h = tt
  low_down x y (z ∷ ys) e h = (upto o x y z e h.0, low_down x y ys e h.1)

  pub low_placed : (x y : A) (ys : List A) → is_gt (R x y) ≡ false → IsLow R x ys → IsLow R x (placed_in R y ys)
  low_placed x y [] e h = (e, tt)
  low_placed x y (z ∷ ys) e h =
      cond_both (is_gt (R y z)) _ _ (IsLow R x) (λ _. (h.0, low_placed x y ys e h.1)) (λ _. (e, h))

  pub in_order_placed : (x : A) (ys : List A) → InOrder R ys → InOrder R (placed_in R x ys)
  in_order_placed x [] h = (tt, tt)
  in_order_placed x (y ∷ ys) h =
      cond_both (is_gt (R x y)) _ _ (InOrder R)
      (λ e. (low_placed y x ys (above_back x y e) h.0, in_order_placed x ys h.1))
      (λ e. ((e, low_down x y ys e h.0), h))

  pub low_filter : (f : A → Bool) (x : A) (ys : List A) → IsLow R x ys → IsLow R x (filter f ys)
  low_filter f x [] h = tt
  low_filter f x (y ∷ ys) h =
      cond_both (f y) _ _ (IsLow R x) (λ _. (h.0, low_filter f x ys h.1)) (λ _. low_filter f x ys h.1)

  placed_before : (x y : A) (ys : List A) → is_gt (R x y) ≡ false → IsLow R y ys → placed_in R x ys ≡ x ∷ ys
  placed_before x y [] e h = refl
  placed_before x y (z ∷ ys) e h = cond-false (is_gt (R x z)) _ _ (upto o x y z e h.0)

  shuffled : (x y : A) (F : List A) (b c : Bool) → placed_in R x (y ∷ F) ≡ y ∷ placed_in R x F →
      cond b (y ∷ cond c (placed_in R x F) F) (cond c (placed_in R x F) F)
      ≡ cond c (placed_in R x (cond b (y ∷ F) F)) (cond b (y ∷ F) F)
  shuffled x y F true true e = sym e
  shuffled x y F true false e = refl
  shuffled x y F false true e = refl
  shuffled x y F false false e = refl

  pub filter-placed : (f : A → Bool) (x : A) (ys : List A) → InOrder R ys →
      filter f (placed_in R x ys) ≡ cond (f x) (placed_in R x (filter f ys)) (filter f ys)
  filter-placed f x [] h = refl
  filter-placed f x (y ∷ ys) h = go (is_gt (R x y)) refl (filter-placed f x ys h.1)
    where
      front : is_gt (R x y) ≡ false → placed_in R x (filter f (y ∷ ys)) ≡ x ∷ filter f (y ∷ ys)
      front e = cond_both (f y) (y ∷ filter f ys) (filter f ys) (λ F. placed_in R x F ≡ x ∷ F)
          (λ _. cond-false (is_gt (R x y)) _ _ e) (λ _. placed_before x y (filter f ys) e (low_filter f y ys h.0))

      go : (t : Bool) → is_gt (R x y) ≡ t →
          filter f (placed_in R x ys) ≡ cond (f x) (placed_in R x (filter f ys)) (filter f ys) →
          filter f (cond t (y ∷ placed_in R x ys) (x ∷ y ∷ ys)) ≡ cond (f x) (placed_in R x (filter f (y ∷ ys))) (filter f (y ∷ ys))
      go false e ih = ap (λ F. cond (f x) F (filter f (y ∷ ys))) (sym (front e))
      go true e ih = ap (λ G. cond (f y) (y ∷ G) G) ih ∙ shuffled x y (filter f ys) (f y) (f x) (cond-true (is_gt (R x y)) _ _ e)
