-- Ends of intervals and the order of places.
use Rattle.std.proofs.Common.{◌≡◌, Bool, true, false, [], ◌∷◌, refl, sym, ap, ◌∙◌}
use Rattle.std.specs.Prelude.{not, ◌&&◌}
use Rattle.std.specs.declared.cmp.Ordering.{Ordering}
use Rattle.std.specs.declared.cmp.Ordering.TheVariants.{Less, Equal, Greater}
use Rattle.std.specs.Ordering.{is_eq, is_gt, is_ge, ordering_then, ordering_reverse}
use Rattle.std.proofs.lemmas.Cmp.{upto, tied_itself, alike_right}
use Rattle.std.proofs.lemmas.Bool.{and_parts, and_from}
use Rattle.cv_values.specs.Order.{compare_items}
use Rattle.cv_keys.specs.Places.{Place, place_cmp, below, above, begins_with, is_over}
use Rattle.fn_tree.proofs.ItemOrders.{items_total, places_total}

is_equal : (r : Ordering) → is_eq r ≡ true → r ≡ Equal
is_equal Less e = cc
is_equal Equal e = refl
is_equal Greater e = cc

true_not_false : (b : Bool) → b ≡ true → b ≡ false → ⊥
true_not_false true p q = cc
true_not_false false p q = cc

-- what stands between a place and one that begins with it begins with it
pub between : (q y z : Place) → is_gt (place_cmp q y) ≡ false → is_gt (place_cmp y z) ≡ false → begins_with z q ≡ true → begins_with y q ≡ true
between [] y z h k e = refl
between (x ∷ q) [] z h k e = cc
between (x ∷ q) (y ∷ ys) [] h k e = cc
between (x ∷ q) (y ∷ ys) (z ∷ zs) h k e = go (between q ys zs) (compare_items x y) refl h
  where
    same : compare_items x z ≡ Equal
    same = items_total.antisymm x z ∙ ap ordering_reverse (is_equal (compare_items z x) (and_parts _ _ e).0)

    back : compare_items x y ≡ Less → compare_items y z ≡ Greater
    back p = sym (alike_right items_total x z y same) ∙ items_total.antisymm y x ∙ ap ordering_reverse p

    on : compare_items x y ≡ Equal → compare_items y z ≡ Equal
    on p = sym (items_total.congr x y z p) ∙ same

    go : (is_gt (place_cmp q ys) ≡ false → is_gt (place_cmp ys zs) ≡ false → begins_with zs q ≡ true → begins_with ys q ≡ true)
        → (r : Ordering) → compare_items x y ≡ r → is_gt (ordering_then r (place_cmp q ys)) ≡ false → is_eq (compare_items y x) && begins_with ys q ≡ true
    go ih Less p c = absurd (true_not_false (is_gt (ordering_then (compare_items y z) (place_cmp ys zs))) (ap (λ r. is_gt (ordering_then r (place_cmp ys zs))) (back p)) k)
    go ih Equal p c = and_from _ _ (ap is_eq (items_total.antisymm y x ∙ ap ordering_reverse p)) (ih c (ap (λ r. is_gt (ordering_then r (place_cmp ys zs))) (sym (on p)) ∙ k) (and_parts _ _ e).1)
    go ih Greater p c = cc

-- a place isn't over what begins with it
pub not_over_above : (q : Place) → is_over q (above q) ≡ false
not_over_above q = ap (λ r. is_gt r && not (begins_with q q)) (tied_itself places_total q)

pub over_below : (q : Place) → is_over q (below q) ≡ true
over_below q = ap is_ge (tied_itself places_total q)

greater_back : (r : Ordering) → is_gt r ≡ true → is_gt (ordering_reverse r) ≡ false
greater_back Less e = cc
greater_back Equal e = cc
greater_back Greater e = refl

-- what is over it stays over it higher up
pub over_above_up : (q y z : Place) → is_gt (place_cmp y z) ≡ false → is_over y (above q) ≡ true → is_over z (above q) ≡ true
over_above_up q y z k e =
    let low : is_gt (place_cmp q y) ≡ false = ap is_gt (places_total.antisymm q y) ∙ greater_back (place_cmp y q) (and_parts _ _ e).0 in
    and_from _ _ (higher low) (not_again low (begins_with z q) refl)
  where
    higher : is_gt (place_cmp q y) ≡ false → is_gt (place_cmp z q) ≡ true
    higher low = go (place_cmp z q) refl
      where
        go : (r : Ordering) → place_cmp z q ≡ r → is_gt r ≡ true
        go Less p = absurd (true_not_false (is_gt (place_cmp y q)) (and_parts _ _ e).0 (upto places_total y z q k (ap is_gt p)))
        go Equal p = absurd (true_not_false (is_gt (place_cmp y q)) (and_parts _ _ e).0 (upto places_total y z q k (ap is_gt p)))
        go Greater p = refl

    not_again : is_gt (place_cmp q y) ≡ false → (b : Bool) → begins_with z q ≡ b → not b ≡ true
    not_again low true p = absurd (true_not_false (begins_with y q) (between q y z low k p) (was_not (begins_with y q) (and_parts _ _ e).1))
      where
        was_not : (b : Bool) → not b ≡ true → b ≡ false
        was_not true c = cc
        was_not false c = refl
    not_again low false p = refl

ge_not_gt : (r : Ordering) → is_ge r ≡ true → is_gt (ordering_reverse r) ≡ false
ge_not_gt Less e = cc
ge_not_gt Equal e = refl
ge_not_gt Greater e = refl

not_gt_ge : (r : Ordering) → is_gt (ordering_reverse r) ≡ false → is_ge r ≡ true
not_gt_ge Less e = cc
not_gt_ge Equal e = refl
not_gt_ge Greater e = refl

pub over_below_up : (q y z : Place) → is_gt (place_cmp y z) ≡ false → is_over y (below q) ≡ true → is_over z (below q) ≡ true
over_below_up q y z k e =
    not_gt_ge (place_cmp z q) (ap is_gt (sym (places_total.antisymm q z))
    ∙ upto places_total q y z (ap is_gt (places_total.antisymm q y) ∙ ge_not_gt (place_cmp y q) e) k)
