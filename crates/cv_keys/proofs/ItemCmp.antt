-- The key order law.
use Rattle.std.proofs.Common.{◌≡◌, ℕ, Bool, not, ◌&&◌, List, [], ◌∷◌, ◌++◌, Ordering, Less, Equal, Greater, is_lt, is_gt, is_ge, is_eq, Some, None, refl, ap, sym, ◌∙◌, append-nil, append_assoc}
use Rattle.std.proofs.lemmas.Cmp.{tied_itself, nat_list_cmp_total}
use Rattle.std.specs.Ordering.{ordering_then}
use Rattle.cv_values.specs.Order.{text_cmp, compare_items}
use Rattle.cv_values.specs.OrderLaws.{compare_exact}
use Rattle.cv_values.specs.Value.{null, int, boolean, string, bytes, array, object}
use Rattle.cv_keys.specs.Places.{Item, Place, place_cmp, begins_with, is_over, End, below, above}
use Rattle.cv_keys.specs.KeyBytes.{item_key, place_key, end_key}
use Rattle.cv_keys.specs.KeyOrder.{ItemInRange, PlaceInRange, EndInRange, KeysGoByItems, KeysAreExact, NoKeyIsPrefix, PlacesGoByKeys, IntervalsHoldByKeys}
use Rattle.cv_keys.proofs.Orders.{then_equal}
use Rattle.cv_keys.proofs.KeyCmp.{key_cmp}

abbrev cmp : List ℕ → List ℕ → Ordering
cmp xs ys = text_cmp xs ys

pub item_key_cmp : (x y : Item) → ItemInRange x → ItemInRange y → (xs ys : List ℕ) → cmp (item_key x ++ xs) (item_key y ++ ys) ≡ ordering_then (compare_items x y) (cmp xs ys)
item_key_cmp None None h k xs ys = refl
item_key_cmp None (Some null) h k xs ys = refl
item_key_cmp None (Some (int n)) h k xs ys = refl
item_key_cmp None (Some (boolean b)) h k xs ys = refl
item_key_cmp None (Some (string s)) h k xs ys = refl
item_key_cmp None (Some (bytes s)) h k xs ys = refl
item_key_cmp None (Some (array vs)) h k xs ys = refl
item_key_cmp None (Some (object ms)) h k xs ys = refl
item_key_cmp (Some null) None h k xs ys = refl
item_key_cmp (Some (int n)) None h k xs ys = refl
item_key_cmp (Some (boolean b)) None h k xs ys = refl
item_key_cmp (Some (string s)) None h k xs ys = refl
item_key_cmp (Some (bytes s)) None h k xs ys = refl
item_key_cmp (Some (array vs)) None h k xs ys = refl
item_key_cmp (Some (object ms)) None h k xs ys = refl
item_key_cmp (Some v) (Some w) h k xs ys = key_cmp v w h k xs ys

-- a key has a first byte, and it is below FF
pub key_above_none : (x : Item) (xs : List ℕ) → cmp [] (item_key x ++ xs) ≡ Less
key_above_none None xs = refl
key_above_none (Some null) xs = refl
key_above_none (Some (int n)) xs = refl
key_above_none (Some (boolean b)) xs = refl
key_above_none (Some (string s)) xs = refl
key_above_none (Some (bytes s)) xs = refl
key_above_none (Some (array vs)) xs = refl
key_above_none (Some (object ms)) xs = refl

key_above_nil : (x : Item) (xs : List ℕ) → cmp (item_key x ++ xs) [] ≡ Greater
key_above_nil None xs = refl
key_above_nil (Some null) xs = refl
key_above_nil (Some (int n)) xs = refl
key_above_nil (Some (boolean b)) xs = refl
key_above_nil (Some (string s)) xs = refl
key_above_nil (Some (bytes s)) xs = refl
key_above_nil (Some (array vs)) xs = refl
key_above_nil (Some (object ms)) xs = refl

key_below_last : (x : Item) (xs : List ℕ) → cmp (item_key x ++ xs) (255 ∷ []) ≡ Less
key_below_last None xs = refl
key_below_last (Some null) xs = refl
key_below_last (Some (int n)) xs = refl
key_below_last (Some (boolean b)) xs = refl
key_below_last (Some (string s)) xs = refl
key_below_last (Some (bytes s)) xs = refl
key_below_last (Some (array vs)) xs = refl
key_below_last (Some (object ms)) xs = refl

pub keys_go_by_items : KeysGoByItems
keys_go_by_items x y h k =
    ap (λ l. cmp l (item_key y)) (sym (append-nil (item_key x))) ∙ ap (cmp (item_key x ++ [])) (sym (append-nil (item_key y)))
    ∙ item_key_cmp x y h k [] [] ∙ then_equal (compare_items x y)

exact : (x y : Item) → compare_items x y ≡ Equal → x ≡ y
exact None None e = refl
exact None (Some w) e = cc
exact (Some v) None e = cc
exact (Some v) (Some w) e = ap Some (compare_exact v w e)

pub keys_are_exact : KeysAreExact
keys_are_exact x y h k e =
    exact x y (sym (keys_go_by_items x y h k) ∙ ap (cmp (item_key x)) (sym e) ∙ tied_itself nat_list_cmp_total (item_key x))

none_left : (o : Ordering) (more : List ℕ) → ordering_then o (cmp more []) ≡ Equal → more ≡ []
none_left o [] e = refl
none_left Less (m ∷ more) e = cc
none_left Equal (m ∷ more) e = cc
none_left Greater (m ∷ more) e = cc

pub no_key_is_prefix : NoKeyIsPrefix
no_key_is_prefix x y h k more e =
    none_left (compare_items x y) more
    (sym (item_key_cmp x y h k more []) ∙ ap (λ l. cmp l (item_key y ++ [])) e ∙ ap (cmp (item_key y)) (append-nil (item_key y)) ∙ tied_itself nat_list_cmp_total (item_key y))

pub places_go_by_keys : PlacesGoByKeys
places_go_by_keys [] [] h k = refl
places_go_by_keys [] (y ∷ q) h k = key_above_none y (place_key q)
places_go_by_keys (x ∷ p) [] h k = key_above_nil x (place_key p)
places_go_by_keys (x ∷ p) (y ∷ q) h k = item_key_cmp x y h.0 k.0 (place_key p) (place_key q) ∙ ap (ordering_then (compare_items x y)) (places_go_by_keys p q h.1 k.1)

-- behind all places that begin with q
above_step : (o rest place : Ordering) (begins : Bool) → is_ge rest ≡ is_gt place && not begins → is_ge (ordering_then o rest) ≡ is_gt (ordering_then o place) && not (is_eq o && begins)
above_step Less rest place begins e = refl
above_step Equal rest place begins e = e
above_step Greater rest place begins e = refl

is_above : (r q : Place) → PlaceInRange r → PlaceInRange q → is_ge (cmp (place_key r) (place_key q ++ 255 ∷ [])) ≡ is_over r (above q)
is_above [] [] h k = refl
is_above [] (y ∷ q) h k = ap (λ l. is_ge (cmp [] l)) (append_assoc (item_key y) (place_key q) (255 ∷ [])) ∙ ap is_ge (key_above_none y (place_key q ++ 255 ∷ []))
is_above (x ∷ r) [] h k = ap is_ge (key_below_last x (place_key r))
is_above (x ∷ r) (y ∷ q) h k =
    ap (λ l. is_ge (cmp (item_key x ++ place_key r) l)) (append_assoc (item_key y) (place_key q) (255 ∷ []))
    ∙ ap is_ge (item_key_cmp x y h.0 k.0 (place_key r) (place_key q ++ 255 ∷ []))
    ∙ above_step (compare_items x y) (cmp (place_key r) (place_key q ++ 255 ∷ [])) (place_cmp r q) (begins_with r q) (is_above r q h.1 k.1)

over_by_key : (r : Place) (e : End) → PlaceInRange r → EndInRange e → is_ge (cmp (place_key r) (end_key e)) ≡ is_over r e
over_by_key r (below q) h k = ap is_ge (places_go_by_keys r q h k)
over_by_key r (above q) h k = is_above r q h k

not_over : (o : Ordering) → is_lt o ≡ not (is_ge o)
not_over Less = refl
not_over Equal = refl
not_over Greater = refl

pub intervals_hold_by_keys : IntervalsHoldByKeys
intervals_hold_by_keys r i h lo hi =
    ap (λ b. b && not (is_over r i.hi)) (sym (over_by_key r i.lo h lo))
    ∙ ap (λ b. is_ge (cmp (place_key r) (end_key i.lo)) && b) (ap not (sym (over_by_key r i.hi h hi)) ∙ sym (not_over (cmp (place_key r) (end_key i.hi))))
