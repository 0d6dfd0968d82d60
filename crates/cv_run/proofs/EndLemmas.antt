-- That ends are some that the key order law speaks of has one proof at most.
use Rattle.std.proofs.Common.{List, [], ◌∷◌, Some, None, refl}
use Rattle.std.specs.Coded.{×_prop}
use Rattle.std.specs.Int.{w64}
use Rattle.std.specs.List.{AllByRecursion-prop}
use mir.ValLaws.{SFits-prop}
use Rattle.cv_values.specs.Value.{Value, null, int, boolean, string, bytes, array, object, Values, no_values, value, Members, no_members, member}
use Rattle.cv_keys.specs.KeyOrder.{IsInRange, AreInRange, MembersInRange, ItemInRange, PlaceInRange, EndInRange}
use Rattle.cv_keys.specs.Places.{Item, Place, End, below, above, PlaceInterval}
use Rattle.cv_store.specs.Reads.{EndsInRange}

mutual
  in_range_prop : (v : Value) → IsProp (IsInRange v)
  in_range_prop null = λ p q. refl
  in_range_prop (int n) = SFits-prop w64 n
  in_range_prop (boolean b) = λ p q. refl
  in_range_prop (string s) = λ p q. refl
  in_range_prop (bytes s) = λ p q. refl
  in_range_prop (array vs) = are_in_range_prop vs
  in_range_prop (object ms) = members_prop ms

  are_in_range_prop : (vs : Values) → IsProp (AreInRange vs)
  are_in_range_prop no_values = λ p q. refl
  are_in_range_prop (value v vs) = ×_prop (in_range_prop v) (are_in_range_prop vs)

  members_prop : (ms : Members) → IsProp (MembersInRange ms)
  members_prop no_members = λ p q. refl
  members_prop (member n v ms) = ×_prop (in_range_prop v) (members_prop ms)

item_prop : (x : Item) → IsProp (ItemInRange x)
item_prop None = λ p q. refl
item_prop (Some v) = in_range_prop v

place_prop : (xs : Place) → IsProp (PlaceInRange xs)
place_prop [] = λ p q. refl
place_prop (x ∷ xs) = ×_prop (item_prop x) (place_prop xs)

end_prop : (e : End) → IsProp (EndInRange e)
end_prop (below q) = place_prop q
end_prop (above q) = place_prop q

pub ends_prop : (is : List PlaceInterval) → IsProp (EndsInRange is)
ends_prop is = AllByRecursion-prop (λ (i : PlaceInterval). EndInRange i.lo × EndInRange i.hi) (λ (i : PlaceInterval). ×_prop (end_prop i.lo) (end_prop i.hi)) is
