-- The key bytes of values, of items and of lists of items.
use Rattle.std.specs.Prelude.{ℕ, zero, suc, Bool, ◌&&◌, ◌+◌, ◌-◌, ◌^◌, ℤ, pos, negsuc, cond, List, [], ◌∷◌, ◌++◌, Some, None}
use Rattle.std.specs.Int.{w64, to_be_bytes}
use Rattle.std.specs.Ordering.{is_lt, is_ge}
use Rattle.cv_values.specs.Order.{text_cmp}
use Rattle.cv_values.specs.Value.{Value, null, int, boolean, string, bytes, array, object, Values, no_values, value, Members, no_members, member}
use Rattle.cv_keys.specs.Places.{Item, Place, End, below, above}

-- the integer as a number from 0: in two's complement with the highest of the 64 bits flipped
abbrev pub raised : ℤ → ℕ
raised (pos n) = 2 ^ 63 + n
raised (negsuc n) = 2 ^ 63 - suc n

-- eight bytes of it, the highest first
unfoldable pub int_bytes : ℤ → List ℕ
int_bytes n = to_be_bytes w64 (raised n)

-- the bytes with FF behind each 00, then the end 00 01
abbrev pub escaped : List ℕ → List ℕ
escaped [] = 0 ∷ 1 ∷ []
escaped (zero ∷ bs) = 0 ∷ 255 ∷ escaped bs
escaped (suc b ∷ bs) = suc b ∷ escaped bs

abbrev pub text_key : List ℕ → List ℕ
text_key s = 6 ∷ escaped s

abbrev mutual
  -- a byte for the kind, 03 to 09, and then what the kind holds
  pub key : Value → List ℕ
  key null = 3 ∷ []
  key (int n) = 4 ∷ int_bytes n
  key (boolean b) = 5 ∷ cond b 1 0 ∷ []
  key (string s) = text_key s
  key (bytes s) = 7 ∷ escaped s
  key (array vs) = 8 ∷ values_key vs
  key (object ms) = 9 ∷ members_key ms

  -- the key of each value, then 00
  pub values_key : Values → List ℕ
  values_key no_values = 0 ∷ []
  values_key (value v vs) = key v ++ values_key vs

  -- each name as a string, and behind it its value; then 00
  pub members_key : Members → List ℕ
  members_key no_members = 0 ∷ []
  members_key (member n v ms) = text_key n ++ key v ++ members_key ms

-- a missing item goes before each value
abbrev pub item_key : Item → List ℕ
item_key None = 2 ∷ []
item_key (Some v) = key v

abbrev pub place_key : Place → List ℕ
place_key [] = []
place_key (x ∷ xs) = item_key x ++ place_key xs

-- right before all keys that begin with that of the list, or right behind them
abbrev pub end_key : End → List ℕ
end_key (below q) = place_key q
end_key (above q) = place_key q ++ 255 ∷ []

-- the key is at least lo and below hi
abbrev pub is_between : List ℕ → List ℕ → List ℕ → Bool
is_between k lo hi = is_ge (text_cmp k lo) && is_lt (text_cmp k hi)
