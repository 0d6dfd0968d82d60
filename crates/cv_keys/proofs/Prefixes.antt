-- One item more.
use Rattle.std.proofs.Common.{◌≡◌, [], ◌∷◌, ◌++◌, ap, sym, ◌∙◌, append_assoc, append-nil}
use Rattle.cv_keys.specs.KeyBytes.{item_key, place_key}
use Rattle.cv_keys.specs.KeyOrder.{ItemInRange, PlaceInRange}
use Rattle.cv_keys.specs.Places.{Item, Place}

pub place_key_last : (p : Place) (x : Item) → place_key (p ++ x ∷ []) ≡ place_key p ++ item_key x
place_key_last [] x = append-nil (item_key x)
place_key_last (y ∷ p) x = ap (λ r. item_key y ++ r) (place_key_last p x) ∙ sym (append_assoc (item_key y) (place_key p) (item_key x))

pub in_range_last : (p : Place) (x : Item) → PlaceInRange p → ItemInRange x → PlaceInRange (p ++ x ∷ [])
in_range_last [] x h k = (k, tt)
in_range_last (y ∷ p) x h k = (h.0, in_range_last p x h.1 k)
