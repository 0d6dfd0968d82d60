-- The JSON tree of a value has no float.
use Rattle.std.proofs.Common.{◌≡◌, false, refl}
use Rattle.serde_json.specs.Written.{has_float, items_have_float, members_have_float}
use Rattle.cv_json.specs.Json.{json_of, values_json, members_json}
use Rattle.cv_values.specs.Value.{Value, null, int, boolean, string, bytes, array, object, Values, no_values, value, Members, no_members, member}

mutual
  pub no_float : (v : Value) → has_float (json_of v) ≡ false
  no_float null = refl
  no_float (int n) = refl
  no_float (boolean b) = refl
  no_float (string s) = refl
  no_float (bytes s) = refl
  no_float (array vs) = no_floats vs
  no_float (object ms) = no_member_floats ms

  no_floats : (vs : Values) → items_have_float (values_json vs) ≡ false
  no_floats no_values = refl
  no_floats (value v vs) = rw (no_float v, no_floats vs)

  no_member_floats : (ms : Members) → members_have_float (members_json ms) ≡ false
  no_member_floats no_members = refl
  no_member_floats (member n v ms) = rw (no_float v, no_member_floats ms)
