-- Places of documents in an index, and intervals of places.
use Rattle.std.specs.Prelude.{ℕ, Bool, true, false, not, ◌&&◌, List, [], ◌∷◌, Option}
use Rattle.std.specs.Cmp.Lexicographic.{slice_cmp}
use Rattle.std.specs.Ordering.{is_eq, is_gt, is_ge}
use Rattle.std.specs.declared.cmp.Ordering.{Ordering}
use Rattle.cv_values.specs.Order.{compare_items}
use Rattle.cv_values.specs.Value.{Value}

-- a value, or none where it is missing
abbrev pub Item : Type 0
Item = Option Value

abbrev pub Place : Type 0
Place = List Item

-- list order, in which a proper prefix is lower
abbrev pub place_cmp : Place → Place → Ordering
place_cmp p q = slice_cmp compare_items p q

-- an end stands right before all places that begin with q, or right behind them
pub data End : Type 0 where
  below : Place → End
  above : Place → End

-- whether r begins with q
abbrev pub begins_with : Place → Place → Bool
begins_with r [] = true
begins_with [] (y ∷ q) = false
begins_with (x ∷ r) (y ∷ q) = is_eq (compare_items x y) && begins_with r q

abbrev pub is_over : Place → End → Bool
is_over r (below q) = is_ge (place_cmp r q)
is_over r (above q) = is_gt (place_cmp r q) && not (begins_with r q)

-- the places over lo and not over hi, in one index of one table
pub record PlaceInterval : Type 0 where
  pub table : ℕ
  pub index : ℕ
  pub lo : End
  pub hi : End

abbrev pub lies_in : Place → PlaceInterval → Bool
lies_in r i = is_over r i.lo && not (is_over r i.hi)
