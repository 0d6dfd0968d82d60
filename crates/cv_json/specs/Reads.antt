-- What a JSON tree is read as: the value that it is the form of, or its first fault.
-- Faults are looked for node by node, a parent before what it holds, items in order and members in
-- the order of their names; the size of the whole comes last.
use Rattle.std.specs.Prelude.{ℕ, ◌+◌, ℤ, pos, Bool, false, ◌||◌, nat_lt, if◌then◌else◌, List, codes, Option, Some, None, option_map, option_and_then, Result, Ok, Err, ok_or}
use Rattle.std.specs.Int.{w64, from_le_bytes, cast_signed}
use Rattle.std.specs.Str.{bytes_eq}
use Rattle.cv_json.specs.Base64.{bytes_of, eight_bytes_of}
use Rattle.cv_values.specs.Sizes.{size_of, is_bad_name}
use Rattle.cv_values.specs.Value.{Value, null, int, boolean, string, bytes, array, object, Values, no_values, value, Members, no_members, member}
use Rattle.serde_json.specs.Data as json
use Rattle.serde_json.specs.Data.{Data, Items, Members as JsonMembers}
use Rattle.serde_json.specs.Find.{as_i64, as_str}
use Rattle.serde_json.specs.Events.{items_len, members_len}
use Rattle.cv_json.specs.declared.fault.JsonFault.{JsonFault}
use Rattle.cv_json.specs.declared.fault.JsonFault.TheVariants.{FloatUnsupported, BadInteger, BadBytes, BadName, TooDeep, TooMany, TooLarge}

-- ---- objects whose only name is a tag

-- the integer of eight bytes in two's complement, the lowest first
abbrev pub int_from : List ℕ → ℤ
int_from bs = cast_signed w64 (from_le_bytes w64 bs)

-- `$integer` stands before a text of eight bytes
abbrev pub tagged_integer : Data → Result Value JsonFault
tagged_integer d = ok_or (option_map (λ bs. int (int_from bs)) (option_and_then eight_bytes_of (as_str d))) BadInteger

-- `$bytes` stands before a text of bytes
abbrev pub tagged_bytes : Data → Result Value JsonFault
tagged_bytes d = ok_or (option_map bytes (option_and_then bytes_of (as_str d))) BadBytes

-- what an object with this one name is read as, where the name is a tag
abbrev pub tagged_value : List ℕ → Data → Option (Result Value JsonFault)
tagged_value name d =
    if bytes_eq name (codes "$float") then Some (Err FloatUnsupported)
    else (if bytes_eq name (codes "$integer") then Some (tagged_integer d)
    else (if bytes_eq name (codes "$bytes") then Some (tagged_bytes d)
    else None))

-- the same of all members of an object: none, unless there is one name and that is a tag
abbrev pub special : JsonMembers → Option (Result Value JsonFault)
special json.no_members = None
special (json.member n d json.no_members) = tagged_value n d
special (json.member n d (json.member m e ms)) = None

-- ---- faults

-- the first fault of two
abbrev pub or_first : Option JsonFault → Option JsonFault → Option JsonFault
or_first None b = b
or_first (Some e) b = Some e

-- some name is empty or begins with `$`
abbrev pub any_bad_name : JsonMembers → Bool
any_bad_name json.no_members = false
any_bad_name (json.member n d ms) = is_bad_name false n || any_bad_name ms

-- the fault of an array by itself, inside so many arrays and objects and with so many items
abbrev pub array_fault : ℕ → ℕ → Option JsonFault
array_fault outside len = if nat_lt outside 64 then (if nat_lt 8192 len then Some TooMany else None) else Some TooDeep

-- the fault of an object by itself, where no tag is its only name
abbrev pub object_fault : ℕ → ℕ → Bool → Option JsonFault
object_fault outside len bad = if nat_lt outside 64 then (if nat_lt 1024 len then Some TooMany else (if bad then Some BadName else None)) else Some TooDeep

-- a number is an integer of `i64`, or a fault
abbrev pub number_fault : Option ℤ → Option JsonFault
number_fault (Some n) = None
number_fault None = Some FloatUnsupported

-- an object whose only name is a tag has the fault of that form, at any depth; another has its own
abbrev pub special_fault : Option (Result Value JsonFault) → Option JsonFault → Option JsonFault
special_fault (Some (Ok v)) own = None
special_fault (Some (Err e)) own = Some e
special_fault None own = own

abbrev mutual
  -- the first fault of a tree that stands inside so many arrays and objects
  pub first_fault : ℕ → Data → Option JsonFault
  first_fault outside json.null = None
  first_fault outside (json.boolean b) = None
  first_fault outside (json.number n) = number_fault (as_i64 n)
  first_fault outside (json.string s) = None
  first_fault outside (json.array ds) = or_first (array_fault outside (items_len ds)) (items_fault (outside + 1) ds)
  first_fault outside (json.object ms) = special_fault (special ms) (or_first (object_fault outside (members_len ms) (any_bad_name ms)) (members_fault (outside + 1) ms))

  pub items_fault : ℕ → Items → Option JsonFault
  items_fault outside json.no_items = None
  items_fault outside (json.item d ds) = or_first (first_fault outside d) (items_fault outside ds)

  pub members_fault : ℕ → JsonMembers → Option JsonFault
  members_fault outside json.no_members = None
  members_fault outside (json.member n d ms) = or_first (first_fault outside d) (members_fault outside ms)

-- ---- values

-- the integer of a number that is one
abbrev pub number_value : Option ℤ → ℤ
number_value (Some n) = n
number_value None = pos 0

-- the value of an object whose only name is a tag; of another the object
abbrev pub special_value : Option (Result Value JsonFault) → Value → Value
special_value (Some (Ok v)) other = v
special_value (Some (Err e)) other = other
special_value None other = other

abbrev mutual
  -- the value of a tree that has no fault
  pub value_of : Data → Value
  value_of json.null = null
  value_of (json.boolean b) = boolean b
  value_of (json.number n) = int (number_value (as_i64 n))
  value_of (json.string s) = string s
  value_of (json.array ds) = array (items_value ds)
  value_of (json.object ms) = special_value (special ms) (object (members_value ms))

  pub items_value : Items → Values
  items_value json.no_items = no_values
  items_value (json.item d ds) = value (value_of d) (items_value ds)

  pub members_value : JsonMembers → Members
  members_value json.no_members = no_members
  members_value (json.member n d ms) = member n (value_of d) (members_value ms)

-- ---- reading

-- a fault, or what is read without one
abbrev pub unless_fault : {A : Type 0} → Option JsonFault → A → Result A JsonFault
unless_fault None x = Ok x
unless_fault (Some e) x = Err e

-- a value, unless it is too large
abbrev pub sized : Value → Result Value JsonFault
sized v = if nat_lt 1048576 (size_of v) then Err TooLarge else Ok v

-- a fault, or a value that isn't too large
abbrev pub then_sized : Option JsonFault → Value → Result Value JsonFault
then_sized None v = sized v
then_sized (Some e) v = Err e

-- what a whole tree is read as
abbrev pub read : Data → Result Value JsonFault
read d = then_sized (first_fault 0 d) (value_of d)

-- what a tree, its items or its members are read as inside so many arrays and objects, whatever their size
abbrev pub read_at : ℕ → Data → Result Value JsonFault
read_at outside d = unless_fault (first_fault outside d) (value_of d)

abbrev pub read_items : ℕ → Items → Result Values JsonFault
read_items outside ds = unless_fault (items_fault outside ds) (items_value ds)

abbrev pub read_members : ℕ → JsonMembers → Result Members JsonFault
read_members outside ms = unless_fault (members_fault outside ms) (members_value ms)

-- what an object is read as where no tag is its only name
abbrev pub read_object : ℕ → JsonMembers → Result Value JsonFault
read_object outside ms = unless_fault (or_first (object_fault outside (members_len ms) (any_bad_name ms)) (members_fault (outside + 1) ms)) (object (members_value ms))
