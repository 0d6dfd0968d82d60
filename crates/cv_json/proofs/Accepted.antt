-- What is read is a value that `check_value` accepts.
use Rattle.std.proofs.Common.{◌≡◌, ℕ, ◌+◌, ◌<◌, ◌≤◌, nat_lt, if◌then◌else◌, Bool, true, false, ◌||◌, List, Option, Some, None, option_map, Result, Ok, Err, refl, ap, ◌∙◌, subst, arith}
use Rattle.std.proofs.lemmas.Bool.{ltb-true, le-ltb, or_parts, or_from}
use Rattle.std.specs.Option.{ok_or}
use Rattle.cv_json.specs.Reads.{first_fault, items_fault, members_fault, value_of, items_value, members_value, or_first, array_fault, object_fault, special, special_fault, special_value, tagged_integer, tagged_bytes, any_bad_name, then_sized, read, int_from}
use Rattle.cv_json.specs.declared.fault.JsonFault.{JsonFault}
use Rattle.cv_json.specs.declared.fault.JsonFault.TheVariants.{FloatUnsupported, BadInteger, BadBytes, BadName, TooDeep, TooMany}
use Rattle.cv_values.specs.Sizes.{checked, size_of, has_many, has_bad_name, is_bad_name, values_len, members_len, values_many, members_many, values_bad_name, members_bad_name}
use Rattle.cv_values.specs.Value.{Value, int, bytes, object, Values, Members, depth_of, values_depth, members_depth}
use Rattle.serde_json.specs.Data as json
use Rattle.serde_json.specs.Data.{Data, Items, Members as JsonMembers}
use Rattle.serde_json.specs.Events.{items_len, members_len as json_members_len}

-- a value that may stand inside so many arrays and objects
record Accepted (outside : ℕ) (v : Value) : Type 0 where
  shallow : outside + depth_of v ≤ 64
  few : has_many v ≡ false
  good : has_bad_name false v ≡ false

record ValuesAccepted (outside : ℕ) (vs : Values) : Type 0 where
  shallow : outside + values_depth vs ≤ 64
  few : values_many vs ≡ false
  good : values_bad_name false vs ≡ false

record MembersAccepted (outside : ℕ) (ms : Members) : Type 0 where
  shallow : outside + members_depth ms ≤ 64
  few : members_many ms ≡ false
  good : members_bad_name false ms ≡ false

-- ---- objects whose only name is a tag

-- neither an array nor an object
abbrev IsLeaf : Value → Type 0
IsLeaf v = (depth_of v ≡ 0) × (has_many v ≡ false) × (has_bad_name false v ≡ false)

integer_leaf : (o : Option (List ℕ)) (v : Value) → ok_or (option_map (λ bs. int (int_from bs)) o) BadInteger ≡ Ok v → IsLeaf v
integer_leaf (Some bs) v e = let same : int (int_from bs) ≡ v = cc e in subst IsLeaf same (refl, refl, refl)
integer_leaf None v e = cc e

bytes_leaf : (o : Option (List ℕ)) (v : Value) → ok_or (option_map bytes o) BadBytes ≡ Ok v → IsLeaf v
bytes_leaf (Some bs) v e = let same : bytes bs ≡ v = cc e in subst IsLeaf same (refl, refl, refl)
bytes_leaf None v e = cc e

tag_cases : (a b c : Bool) (i s : Result Value JsonFault) (v : Value) → (i ≡ Ok v → IsLeaf v) → (s ≡ Ok v → IsLeaf v)
    → (if a then Some (Err FloatUnsupported) else (if b then Some i else (if c then Some s else None))) ≡ Some (Ok v) → IsLeaf v
tag_cases true b c i s v integer string e = cc e
tag_cases false true c i s v integer string e = integer (cc e)
tag_cases false false true i s v integer string e = string (cc e)
tag_cases false false false i s v integer string e = cc e

special_leaf : (ms : JsonMembers) (v : Value) → special ms ≡ Some (Ok v) → IsLeaf v
special_leaf json.no_members v e = cc e
special_leaf (json.member n d json.no_members) v e = tag_cases _ _ _ (tagged_integer d) (tagged_bytes d) v (integer_leaf _ v) (bytes_leaf _ v) e
special_leaf (json.member n d (json.member m f ms)) v e = cc e

special_cases : (outside : ℕ) (s : Option (Result Value JsonFault)) (own : Option JsonFault) (other : Value) → outside ≤ 64 → ((v : Value) → s ≡ Some (Ok v) → IsLeaf v)
    → (own ≡ None → Accepted outside other) → special_fault s own ≡ None → Accepted outside (special_value s other)
special_cases outside None own other h leaf accepted e = accepted e
special_cases outside (Some (Err f)) own other h leaf accepted e = cc e
special_cases outside (Some (Ok v)) own other h leaf accepted e = let is = leaf v refl in record { shallow = omega arith; few = is.1; good = is.2 }

-- ---- what a node is without a fault

neither : (a b : Option JsonFault) → or_first a b ≡ None → (a ≡ None) × (b ≡ None)
neither None b e = (refl, e)
neither (Some f) b e = cc e

array_cases : (shallow many : Bool) → (if shallow then (if many then Some TooMany else None) else Some TooDeep) ≡ None → (shallow ≡ true) × (many ≡ false)
array_cases true false e = (refl, refl)
array_cases true true e = cc e
array_cases false many e = cc e

object_cases : (shallow many bad : Bool) → (if shallow then (if many then Some TooMany else (if bad then Some BadName else None)) else Some TooDeep) ≡ None → (shallow ≡ true) × (many ≡ false) × (bad ≡ false)
object_cases true false false e = (refl, refl, refl)
object_cases true false true e = cc e
object_cases true true bad e = cc e
object_cases false many bad e = cc e

items_value-len : (ds : Items) → values_len (items_value ds) ≡ items_len ds
items_value-len json.no_items = refl
items_value-len (json.item d ds) = omega (arith, items_value-len ds)

members_value-len : (ms : JsonMembers) → members_len (members_value ms) ≡ json_members_len ms
members_value-len json.no_members = refl
members_value-len (json.member n d ms) = omega (arith, members_value-len ms)

mutual
  accepted : (outside : ℕ) (d : Data) → outside ≤ 64 → first_fault outside d ≡ None → Accepted outside (value_of d)
  accepted outside json.null h e = record { shallow = omega arith; few = refl; good = refl }
  accepted outside (json.boolean b) h e = record { shallow = omega arith; few = refl; good = refl }
  accepted outside (json.number n) h e = record { shallow = omega arith; few = refl; good = refl }
  accepted outside (json.string s) h e = record { shallow = omega arith; few = refl; good = refl }
  accepted outside (json.array ds) h e =
      let parts = neither (array_fault outside (items_len ds)) (items_fault (outside + 1) ds) e in
      let own = array_cases (nat_lt outside 64) (nat_lt 8192 (items_len ds)) parts.0 in
      let below : outside < 64 = ltb-true outside 64 own.0 in
      let vs = items_accepted (outside + 1) ds (omega arith) parts.1 in
      let few : nat_lt 8192 (values_len (items_value ds)) ≡ false = ap (nat_lt 8192) (items_value-len ds) ∙ own.1 in
      record { shallow = omega (arith, vs.shallow); few = or_from (nat_lt 8192 (values_len (items_value ds))) (values_many (items_value ds)) few vs.few; good = vs.good }
  accepted outside (json.object ms) h e =
      special_cases outside (special ms) _ (object (members_value ms)) h (special_leaf ms) (λ none.
      let parts = neither (object_fault outside (json_members_len ms) (any_bad_name ms)) (members_fault (outside + 1) ms) none in
      let own = object_cases (nat_lt outside 64) (nat_lt 1024 (json_members_len ms)) (any_bad_name ms) parts.0 in
      let below : outside < 64 = ltb-true outside 64 own.0 in
      let vs = members_accepted (outside + 1) ms (omega arith) own.2 parts.1 in
      let few : nat_lt 1024 (members_len (members_value ms)) ≡ false = ap (nat_lt 1024) (members_value-len ms) ∙ own.1 in
      record { shallow = omega (arith, vs.shallow); few = or_from (nat_lt 1024 (members_len (members_value ms))) (members_many (members_value ms)) few vs.few; good = vs.good }) e

  items_accepted : (outside : ℕ) (ds : Items) → outside ≤ 64 → items_fault outside ds ≡ None → ValuesAccepted outside (items_value ds)
  items_accepted outside json.no_items h e = record { shallow = omega arith; few = refl; good = refl }
  items_accepted outside (json.item d ds) h e =
      let parts = neither (first_fault outside d) (items_fault outside ds) e in
      let first = accepted outside d h parts.0 in
      let rest = items_accepted outside ds h parts.1 in
      record {
        shallow = omega (arith, first.shallow, rest.shallow);
        few = or_from (has_many (value_of d)) (values_many (items_value ds)) first.few rest.few;
        good = or_from (has_bad_name false (value_of d)) (values_bad_name false (items_value ds)) first.good rest.good;
      }

  members_accepted : (outside : ℕ) (ms : JsonMembers) → outside ≤ 64 → any_bad_name ms ≡ false → members_fault outside ms ≡ None → MembersAccepted outside (members_value ms)
  members_accepted outside json.no_members h named e = record { shallow = omega arith; few = refl; good = refl }
  members_accepted outside (json.member n d ms) h named e =
      let names = or_parts (is_bad_name false n) (any_bad_name ms) named in
      let parts = neither (first_fault outside d) (members_fault outside ms) e in
      let first = accepted outside d h parts.0 in
      let rest = members_accepted outside ms h names.1 parts.1 in
      record {
        shallow = omega (arith, first.shallow, rest.shallow);
        few = or_from (has_many (value_of d)) (members_many (members_value ms)) first.few rest.few;
        good = or_from (is_bad_name false n || has_bad_name false (value_of d)) (members_bad_name false (members_value ms)) (or_from (is_bad_name false n) (has_bad_name false (value_of d)) names.0 first.good) rest.good;
      }

-- ---- the whole

sized_cases : (a : Option JsonFault) (large : Bool) (v w : Value) → nat_lt 1048576 (size_of v) ≡ large → then_sized a v ≡ Ok w → (a ≡ None) × (large ≡ false) × (v ≡ w)
sized_cases None false v w is e = (refl, refl, cc (rw is at e))
sized_cases None true v w is e = cc (rw is at e)
sized_cases (Some f) large v w is e = cc e

pub checked-read : (d : Data) (v : Value) → read d ≡ Ok v → checked false v ≡ Ok tt
checked-read d v e =
    let parts = sized_cases (first_fault 0 d) (nat_lt 1048576 (size_of (value_of d))) (value_of d) v refl e in
    let whole = accepted 0 d (omega arith) parts.0 in
    let shallow : nat_lt 64 (depth_of (value_of d)) ≡ false = le-ltb 64 (depth_of (value_of d)) (omega (arith, whole.shallow)) in
    subst (λ w. checked false w ≡ Ok tt) parts.2 (rw (shallow, whole.few, whole.good, parts.1) refl)
