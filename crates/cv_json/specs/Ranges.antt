-- What holds of each plain value that a Rust value stands for: its integers are those of `i64`, and
-- its bytes are below 256. A plain value by itself may hold any numbers.
use Rattle.std.specs.Prelude.{⊤, FitsSigned}
use Rattle.std.specs.Int.{w64}
use Rattle.base64.specs.GeneralPurpose.{IsBytes}
use Rattle.cv_values.specs.Value.{Value, null, int, boolean, string, bytes, array, object, Values, no_values, value, Members, no_members, member}

abbrev mutual
  pub IsInRange : Value → Type 0
  IsInRange null = ⊤
  IsInRange (int n) = FitsSigned w64 n
  IsInRange (boolean b) = ⊤
  IsInRange (string s) = ⊤
  IsInRange (bytes s) = IsBytes s
  IsInRange (array vs) = ValuesInRange vs
  IsInRange (object ms) = MembersInRange ms

  pub ValuesInRange : Values → Type 0
  ValuesInRange no_values = ⊤
  ValuesInRange (value v vs) = IsInRange v × ValuesInRange vs

  pub MembersInRange : Members → Type 0
  MembersInRange no_members = ⊤
  MembersInRange (member n v ms) = IsInRange v × MembersInRange ms
