-- Reading what was written gives it back.
use Rattle.std.proofs.Common.{◌≡◌, ℕ, zero, suc, ◌+◌, ◌^◌, ◌<◌, ◌≤◌, ◌==◌, ◌||◌, nat_lt, if◌then◌else◌, ℤ, Bool, true, false, List, [], ◌∷◌, Some, None, Result, Ok, Err, refl, ap, ◌∙◌, arith}
use Rattle.std.proofs.Math.Facts.{to_z-of_z, Fits-of_z}
use Rattle.std.proofs.lemmas.Bool.{lt-ltb, ltb-false, or_parts, or_from}
use Rattle.std.proofs.lemmas.Nat.{from_le_bytes-to_le_bytes_8}
use Rattle.std.specs.Int.{w64, to_le_bytes, cast_unsigned}
use Rattle.std.specs.Prelude.{FitsSigned, IfOk}
use Rattle.base64.proofs.EngineFacts.{decode_of-encode_of}
use Rattle.base64.specs.Engines.{standard}
use Rattle.base64.specs.GeneralPurpose.{IsBytes, decode_of}
use Rattle.cv_json.specs.Base64.{base64_text, eight_bytes_of}
use Rattle.cv_json.specs.Json.{json_of, values_json, members_json, int_bytes}
use Rattle.cv_json.specs.Ranges.{IsInRange, ValuesInRange, MembersInRange}
use Rattle.cv_json.specs.Reads.{first_fault, items_fault, members_fault, value_of, items_value, members_value, special, tagged_value, tagged_integer, any_bad_name, read}
use Rattle.cv_json.specs.Timestamps.{ts_text, read_ts}
use Rattle.cv_values.specs.Sizes.{checked, size_of, has_many, has_bad_name, is_bad_name, values_len, members_len, values_many, members_many, values_bad_name, members_bad_name}
use Rattle.cv_values.specs.Value.{Value, null, int, boolean, string, bytes, array, object, Values, no_values, value, Members, no_members, member, depth_of, values_depth, members_depth}
use Rattle.cv_values.specs.declared.check.ValueFault.TheVariants.{TooDeep, TooMany, BadName, TooLarge}
use Rattle.serde_json.specs.Data as json
use Rattle.serde_json.specs.Data.{Data}
use Rattle.serde_json.specs.View.{view}
use Rattle.serde_json.specs.declared.value.Value.{Value as Tree}
use Rattle.serde_json.specs.Events.{items_len, members_len as json_members_len}

-- ---- bytes

-- the bytes of a number
number_bytes : (n : ℕ) → IsBytes (to_le_bytes w64 n)
number_bytes n zero = omega arith
number_bytes n (suc zero) = omega arith
number_bytes n (suc (suc zero)) = omega arith
number_bytes n (suc (suc (suc zero))) = omega arith
number_bytes n (suc (suc (suc (suc zero)))) = omega arith
number_bytes n (suc (suc (suc (suc (suc zero))))) = omega arith
number_bytes n (suc (suc (suc (suc (suc (suc zero)))))) = omega arith
number_bytes n (suc (suc (suc (suc (suc (suc (suc zero))))))) = omega arith
number_bytes n (suc (suc (suc (suc (suc (suc (suc (suc i)))))))) = omega arith

bytes_back : (bs : List ℕ) → IsBytes bs → decode_of standard (base64_text bs) ≡ Ok bs
bytes_back bs small = decode_of-encode_of standard bs refl small

eight_back : (n : ℕ) → eight_bytes_of (base64_text (to_le_bytes w64 n)) ≡ Some (to_le_bytes w64 n)
eight_back n = rw (bytes_back (to_le_bytes w64 n) (number_bytes n)) refl

pub read_ts-ts_text : (ts : ℕ) → ts < 2 ^ 64 → read_ts (ts_text ts) ≡ Some ts
read_ts-ts_text ts small = rw (eight_back ts) (ap Some (from_le_bytes-to_le_bytes_8 ts small))

integer_back : (n : ℤ) → FitsSigned w64 n → tagged_integer (json.string (base64_text (int_bytes n))) ≡ Ok (int n)
integer_back n small =
    let unsigned : cast_unsigned w64 n < 2 ^ 64 = (Fits-of_z {w = w64} {z = n} small).fits in
    rw (eight_back (cast_unsigned w64 n), from_le_bytes-to_le_bytes_8 (cast_unsigned w64 n) unsigned, to_z-of_z {w = w64} {z = n} small) refl

-- ---- names

-- a name that isn't bad is no tag
no_tag : (n : List ℕ) (d : Data) → is_bad_name false n ≡ false → tagged_value n d ≡ None
no_tag [] d good = cc
no_tag (c ∷ cs) d good = rw (or_parts (c == 36) false good).0 refl

-- the parts of members without a bad name
good_parts : (n : List ℕ) (v : Value) (ms : Members) → members_bad_name false (member n v ms) ≡ false → (is_bad_name false n ≡ false) × (has_bad_name false v ≡ false) × (members_bad_name false ms ≡ false)
good_parts n v ms good =
    let both = or_parts (is_bad_name false n || has_bad_name false v) (members_bad_name false ms) good in
    let first = or_parts (is_bad_name false n) (has_bad_name false v) both.0 in
    (first.0, first.1, both.1)

no_special : (ms : Members) → members_bad_name false ms ≡ false → special (members_json ms) ≡ None
no_special no_members good = refl
no_special (member n v no_members) good = no_tag n (json_of v) (good_parts n v no_members good).0
no_special (member n v (member m w ms)) good = refl

no_bad_name : (ms : Members) → members_bad_name false ms ≡ false → any_bad_name (members_json ms) ≡ false
no_bad_name no_members good = refl
no_bad_name (member n v ms) good =
    let parts = good_parts n v ms good in
    or_from (is_bad_name false n) (any_bad_name (members_json ms)) parts.0 (no_bad_name ms parts.2)

-- ---- values

mutual
  value_back : (v : Value) → IsInRange v → has_bad_name false v ≡ false → value_of (json_of v) ≡ v
  value_back null small good = refl
  value_back (int n) small good = rw (integer_back n small) refl
  value_back (boolean b) small good = refl
  value_back (string s) small good = refl
  value_back (bytes s) small good = rw (bytes_back s small) refl
  value_back (array vs) small good = ap array (values_back vs small good)
  value_back (object ms) small good = rw (no_special ms good) (ap object (members_back ms small good))

  values_back : (vs : Values) → ValuesInRange vs → values_bad_name false vs ≡ false → items_value (values_json vs) ≡ vs
  values_back no_values small good = refl
  values_back (value v vs) small good =
      let both = or_parts (has_bad_name false v) (values_bad_name false vs) good in
      λ i. value (value_back v small.0 both.0 i) (values_back vs small.1 both.1 i)

  members_back : (ms : Members) → MembersInRange ms → members_bad_name false ms ≡ false → members_value (members_json ms) ≡ ms
  members_back no_members small good = refl
  members_back (member n v ms) small good =
      let parts = good_parts n v ms good in
      λ i. member n (value_back v small.0 parts.1 i) (members_back ms small.1 parts.2 i)

-- ---- faults

values_json-len : (vs : Values) → items_len (values_json vs) ≡ values_len vs
values_json-len no_values = refl
values_json-len (value v vs) = omega (arith, values_json-len vs)

members_json-len : (ms : Members) → json_members_len (members_json ms) ≡ members_len ms
members_json-len no_members = refl
members_json-len (member n v ms) = omega (arith, members_json-len ms)

mutual
  no_fault : (outside : ℕ) (v : Value) → IsInRange v → has_bad_name false v ≡ false → has_many v ≡ false → outside + depth_of v ≤ 64 → first_fault outside (json_of v) ≡ None
  no_fault outside null small good few shallow = refl
  no_fault outside (int n) small good few shallow = rw (integer_back n small) refl
  no_fault outside (boolean b) small good few shallow = refl
  no_fault outside (string s) small good few shallow = refl
  no_fault outside (bytes s) small good few shallow = rw (bytes_back s small) refl
  no_fault outside (array vs) small good few shallow =
      let both = or_parts (nat_lt 8192 (values_len vs)) (values_many vs) few in
      rw (lt-ltb outside 64 (omega arith), values_json-len vs, both.0) (no_values_fault outside vs small good both.1 (omega arith))
  no_fault outside (object ms) small good few shallow =
      let both = or_parts (nat_lt 1024 (members_len ms)) (members_many ms) few in
      rw (no_special ms good, lt-ltb outside 64 (omega arith), members_json-len ms, both.0, no_bad_name ms good) (no_members_fault outside ms small good both.1 (omega arith))

  no_values_fault : (outside : ℕ) (vs : Values) → ValuesInRange vs → values_bad_name false vs ≡ false → values_many vs ≡ false → outside + 1 + values_depth vs ≤ 64 → items_fault (outside + 1) (values_json vs) ≡ None
  no_values_fault outside no_values small good few shallow = refl
  no_values_fault outside (value v vs) small good few shallow =
      let names = or_parts (has_bad_name false v) (values_bad_name false vs) good in
      let counts = or_parts (has_many v) (values_many vs) few in
      rw (no_fault (outside + 1) v small.0 names.0 counts.0 (omega arith)) (no_values_fault outside vs small.1 names.1 counts.1 (omega arith))

  no_members_fault : (outside : ℕ) (ms : Members) → MembersInRange ms → members_bad_name false ms ≡ false → members_many ms ≡ false → outside + 1 + members_depth ms ≤ 64 → members_fault (outside + 1) (members_json ms) ≡ None
  no_members_fault outside no_members small good few shallow = refl
  no_members_fault outside (member n v ms) small good few shallow =
      let names = good_parts n v ms good in
      let counts = or_parts (has_many v) (members_many ms) few in
      rw (no_fault (outside + 1) v small.0 names.1 counts.0 (omega arith)) (no_members_fault outside ms small.1 names.2 counts.1 (omega arith))

-- ---- the whole

-- what a value that is checked has none of
checks : (deep many bad large : Bool) → (if deep then Err TooDeep else (if many then Err TooMany else (if bad then Err BadName else (if large then Err TooLarge else Ok (tt {0}))))) ≡ Ok (tt {0})
    → (deep ≡ false) × (many ≡ false) × (bad ≡ false) × (large ≡ false)
checks false false false false good = (refl, refl, refl, refl)
checks true many bad large good = cc good
checks false true bad large good = cc good
checks false false true large good = cc good
checks false false false true good = cc good

pub read-json_of : (v : Value) → checked false v ≡ Ok tt → IsInRange v → read (json_of v) ≡ Ok v
read-json_of v good small =
    let none = checks (nat_lt 64 (depth_of v)) (has_many v) (has_bad_name false v) (nat_lt 1048576 (size_of v)) good in
    let shallow : 0 + depth_of v ≤ 64 = omega (arith, ltb-false 64 (depth_of v) none.0) in
    rw (no_fault 0 v small none.2 none.1 shallow, value_back v small none.2, none.3) refl

pub reads_back : {E : Type 0} (r : Result Tree E) (v : Value) → IfOk r (λ j. view j ≡ json_of v) → IfOk r (λ j. IsInRange v) → IfOk r (λ j. checked false v ≡ Ok tt → read (view j) ≡ Ok v)
reads_back (Ok j) v written small = λ good. ap read written ∙ read-json_of v good small
reads_back (Err e) v written small = tt
