-- Reading step by step: the first fault and the value together, as the functions meet them.
use Rattle.std.proofs.Common.{◌≡◌, ℕ, ◌+◌, Bool, true, false, nat_lt, if◌then◌else◌, List, Option, Some, None, Result, Ok, Err, unwrap_or, refl}
use Rattle.cv_json.specs.Reads.{first_fault, items_fault, members_fault, value_of, items_value, members_value, or_first, special, special_fault, special_value, any_bad_name, unless_fault, then_sized, sized, read, read_at, read_items, read_members, read_object}
use Rattle.cv_json.specs.declared.fault.JsonFault.{JsonFault}
use Rattle.cv_json.specs.declared.fault.JsonFault.TheVariants.{BadName, TooDeep, TooMany}
use Rattle.cv_values.specs.Value.{Value, array, object, Values, value, Members, member}
use Rattle.serde_json.specs.Data as json
use Rattle.serde_json.specs.Data.{Data, Items, Members as JsonMembers}
use Rattle.serde_json.specs.Events.{items_len, members_len}

abbrev pub on_ok : {A B : Type 0} → (A → B) → Result A JsonFault → Result B JsonFault
on_ok f (Ok x) = Ok (f x)
on_ok f (Err e) = Err e

abbrev pub then_read : {A B : Type 0} → Result A JsonFault → (A → Result B JsonFault) → Result B JsonFault
then_read (Ok x) f = f x
then_read (Err e) f = Err e

both : {A B C : Type 0} (a b : Option JsonFault) (x : A) (y : B) (f : A → B → C) → unless_fault (or_first a b) (f x y) ≡ then_read (unless_fault a x) (λ v. on_ok (f v) (unless_fault b y))
both None None x y f = refl
both None (Some e) x y f = refl
both (Some e) b x y f = refl

-- an item, and those after it
pub read_items-item : (outside : ℕ) (d : Data) (ds : Items) → read_items outside (json.item d ds) ≡ then_read (read_at outside d) (λ v. on_ok (value v) (read_items outside ds))
read_items-item outside d ds = both (first_fault outside d) (items_fault outside ds) (value_of d) (items_value ds) value

-- a member, and those after it
pub read_members-member : (outside : ℕ) (n : List ℕ) (d : Data) (ms : JsonMembers) → read_members outside (json.member n d ms) ≡ then_read (read_at outside d) (λ v. on_ok (member n v) (read_members outside ms))
read_members-member outside n d ms = both (first_fault outside d) (members_fault outside ms) (value_of d) (members_value ms) (member n)

array_cases : (shallow many : Bool) (a : Option JsonFault) (vs : Values)
    → unless_fault (or_first (if shallow then (if many then Some TooMany else None) else Some TooDeep) a) (array vs) ≡ (if shallow then (if many then Err TooMany else on_ok array (unless_fault a vs)) else Err TooDeep)
array_cases true true a vs = refl
array_cases true false None vs = refl
array_cases true false (Some e) vs = refl
array_cases false many a vs = refl

-- an array's own faults, and then those of its items
pub read_at-array : (outside : ℕ) (ds : Items)
    → read_at outside (json.array ds) ≡ (if nat_lt outside 64 then (if nat_lt 8192 (items_len ds) then Err TooMany else on_ok array (read_items (outside + 1) ds)) else Err TooDeep)
read_at-array outside ds = array_cases (nat_lt outside 64) (nat_lt 8192 (items_len ds)) (items_fault (outside + 1) ds) (items_value ds)

object_cases : (shallow many bad : Bool) (a : Option JsonFault) (ms : Members)
    → unless_fault (or_first (if shallow then (if many then Some TooMany else (if bad then Some BadName else None)) else Some TooDeep) a) (object ms)
    ≡ (if shallow then (if many then Err TooMany else (if bad then Err BadName else on_ok object (unless_fault a ms))) else Err TooDeep)
object_cases true true bad a ms = refl
object_cases true false true a ms = refl
object_cases true false false None ms = refl
object_cases true false false (Some e) ms = refl
object_cases false many bad a ms = refl

-- an object's own faults, and then those of its members
pub read_object-is : (outside : ℕ) (ms : JsonMembers)
    → read_object outside ms
    ≡ (if nat_lt outside 64 then (if nat_lt 1024 (members_len ms) then Err TooMany else (if any_bad_name ms then Err BadName else on_ok object (read_members (outside + 1) ms))) else Err TooDeep)
read_object-is outside ms = object_cases (nat_lt outside 64) (nat_lt 1024 (members_len ms)) (any_bad_name ms) (members_fault (outside + 1) ms) (members_value ms)

special_cases : (s : Option (Result Value JsonFault)) (a : Option JsonFault) (v : Value) → unless_fault (special_fault s a) (special_value s v) ≡ unwrap_or s (unless_fault a v)
special_cases None a v = refl
special_cases (Some (Ok w)) a v = refl
special_cases (Some (Err e)) a v = refl

-- an object is what its tag says, or an object
pub read_at-object : (outside : ℕ) (ms : JsonMembers) → read_at outside (json.object ms) ≡ unwrap_or (special ms) (read_object outside ms)
read_at-object outside ms = special_cases (special ms) _ (object (members_value ms))

sized_cases : (a : Option JsonFault) (v : Value) → then_sized a v ≡ then_read (unless_fault a v) sized
sized_cases None v = refl
sized_cases (Some e) v = refl

-- a tree without a fault, and then its size
pub read-is : (d : Data) → read d ≡ then_read (read_at 0 d) sized
read-is d = sized_cases (first_fault 0 d) (value_of d)

pub ruleset steps = (read_at-array, read_object-is, read_at-object, read-is)
