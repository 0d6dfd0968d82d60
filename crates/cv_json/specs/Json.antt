-- The JSON tree that a value is written as.
use Rattle.std.specs.Prelude.{ℕ, ℤ, List, codes}
use Rattle.std.specs.Int.{w64, to_le_bytes, cast_unsigned}
use Rattle.cv_json.specs.Base64.{base64_text}
use Rattle.cv_values.specs.Value.{Value, null, int, boolean, string, bytes, array, object, Values, no_values, value, Members, no_members, member}
use Rattle.serde_json.specs.Data as json
use Rattle.serde_json.specs.Data.{Data, Items, Members as JsonMembers}

-- an object with one name and a text
abbrev pub tagged : List ℕ → List ℕ → Data
tagged name text = json.object (json.member name (json.string text) json.no_members)

-- the eight bytes of an integer in two's complement, the lowest first
abbrev pub int_bytes : ℤ → List ℕ
int_bytes n = to_le_bytes w64 (cast_unsigned w64 n)

abbrev mutual
  -- integers and bytes are base64 texts under a tag; the other kinds are what they are in JSON
  pub json_of : Value → Data
  json_of null = json.null
  json_of (int n) = tagged (codes "$integer") (base64_text (int_bytes n))
  json_of (boolean b) = json.boolean b
  json_of (string s) = json.string s
  json_of (bytes s) = tagged (codes "$bytes") (base64_text s)
  json_of (array vs) = json.array (values_json vs)
  json_of (object ms) = json.object (members_json ms)

  pub values_json : Values → Items
  values_json no_values = json.no_items
  values_json (value v vs) = json.item (json_of v) (values_json vs)

  pub members_json : Members → JsonMembers
  members_json no_members = json.no_members
  members_json (member n v ms) = json.member n (json_of v) (members_json ms)
