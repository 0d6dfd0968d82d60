-- What the key order law says.
use Rattle.std.specs.Prelude.{◌≡◌, ℕ, List, [], ◌∷◌, ◌++◌, Some, None, FitsSigned}
use Rattle.std.specs.Int.{w64}
use Rattle.cv_values.specs.Order.{text_cmp, compare_items}
use Rattle.cv_values.specs.Value.{Value, null, int, boolean, string, bytes, array, object, Values, no_values, value, Members, no_members, member}
use Rattle.cv_keys.specs.Places.{Item, Place, place_cmp, End, below, above, PlaceInterval, lies_in}
use Rattle.cv_keys.specs.KeyBytes.{item_key, place_key, end_key, is_between}

abbrev mutual
  -- each integer in the value fits 64 bits, as those of a `Val` do
  pub IsInRange : Value → Type 0
  IsInRange null = Unit {0}
  IsInRange (int n) = FitsSigned w64 n
  IsInRange (boolean b) = Unit {0}
  IsInRange (string s) = Unit {0}
  IsInRange (bytes s) = Unit {0}
  IsInRange (array vs) = AreInRange vs
  IsInRange (object ms) = MembersInRange ms

  pub AreInRange : Values → Type 0
  AreInRange no_values = Unit {0}
  AreInRange (value v vs) = IsInRange v × AreInRange vs

  pub MembersInRange : Members → Type 0
  MembersInRange no_members = Unit {0}
  MembersInRange (member n v ms) = IsInRange v × MembersInRange ms

abbrev pub ItemInRange : Item → Type 0
ItemInRange None = Unit {0}
ItemInRange (Some v) = IsInRange v

abbrev pub PlaceInRange : Place → Type 0
PlaceInRange [] = Unit {0}
PlaceInRange (x ∷ xs) = ItemInRange x × PlaceInRange xs

abbrev pub EndInRange : End → Type 0
EndInRange (below q) = PlaceInRange q
EndInRange (above q) = PlaceInRange q

-- byte order of keys is the order of items
abbrev pub KeysGoByItems : Type 0
KeysGoByItems = (x y : Item) → ItemInRange x → ItemInRange y → text_cmp (item_key x) (item_key y) ≡ compare_items x y

-- different items have different keys
abbrev pub KeysAreExact : Type 0
KeysAreExact = (x y : Item) → ItemInRange x → ItemInRange y → item_key x ≡ item_key y → x ≡ y

-- where the key of an item begins with that of another, nothing follows it
abbrev pub NoKeyIsPrefix : Type 0
NoKeyIsPrefix = (x y : Item) → ItemInRange x → ItemInRange y → (more : List ℕ) → item_key x ++ more ≡ item_key y → more ≡ []

-- byte order of the keys of lists is list order
abbrev pub PlacesGoByKeys : Type 0
PlacesGoByKeys = (p q : Place) → PlaceInRange p → PlaceInRange q → text_cmp (place_key p) (place_key q) ≡ place_cmp p q

-- a place is in an interval just where its key isn't below that of lo, and is below that of hi
abbrev pub IntervalsHoldByKeys : Type 0
IntervalsHoldByKeys = (r : Place) (i : PlaceInterval) → PlaceInRange r → EndInRange i.lo → EndInRange i.hi → lies_in r i ≡ is_between (place_key r) (end_key i.lo) (end_key i.hi)
