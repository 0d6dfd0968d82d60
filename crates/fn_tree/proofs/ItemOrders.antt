-- The order of items and of places is total.
use Rattle.std.proofs.Common.{◌≡◌, Some, None, Less, Equal, refl}
use Rattle.std.specs.Cmp.{IsTotalOrder}
use Rattle.std.specs.Ordering.{ordering_reverse}
use Rattle.std.proofs.lemmas.Cmp.{lists_total}
use Rattle.cv_values.specs.Order.{compare_items}
use Rattle.cv_values.specs.OrderLaws.{compare_total}
use Rattle.cv_keys.specs.Places.{Item, place_cmp}

items_reverse : (x y : Item) → compare_items x y ≡ ordering_reverse (compare_items y x)
items_reverse None None = refl
items_reverse None (Some w) = refl
items_reverse (Some v) None = refl
items_reverse (Some v) (Some w) = compare_total.antisymm v w

items_chain : (x y z : Item) → compare_items x y ≡ Less → compare_items y z ≡ Less → compare_items x z ≡ Less
items_chain None None z h k = cc
items_chain None (Some v) None h k = cc
items_chain None (Some v) (Some w) h k = refl
items_chain (Some u) None z h k = cc
items_chain (Some u) (Some v) None h k = cc
items_chain (Some u) (Some v) (Some w) h k = compare_total.trans u v w h k

items_alike : (x y z : Item) → compare_items x y ≡ Equal → compare_items x z ≡ compare_items y z
items_alike None None z h = refl
items_alike None (Some v) z h = cc
items_alike (Some u) None z h = cc
items_alike (Some u) (Some v) None h = refl
items_alike (Some u) (Some v) (Some w) h = compare_total.congr u v w h

pub items_total : IsTotalOrder compare_items
items_total = record { antisymm = items_reverse; trans = items_chain; congr = items_alike }

pub places_total : IsTotalOrder place_cmp
places_total = lists_total items_total
