-- What each operation of the function language gives, or its fault. A case that isn't named has operands of the wrong kinds.
use Rattle.std.specs.Prelude.{ℕ, suc, zero, ◌^◌, ℤ, pos, negsuc, ◌+ℤ◌, ◌-ℤ◌, ◌*ℤ◌, neg_ℤ, int_div, int_rem, nat_lt, nat_le, ◌==◌, Bool, true, false, not, ◌&&◌, if◌then◌else◌, List, [], ◌∷◌, ◌++◌, length, map, filter, slice_get, Option, Some, None, is_some, Result, Ok, Err}
use Rattle.std.specs.BTreeMap.{is_at}
use Rattle.std.specs.Fmt.{signed_decimal}
use Rattle.std.specs.List.{list_any, slice_range}
use Rattle.std.specs.Map.{keys_of, lookup}
use Rattle.cv_values.specs.Docs.{with_member}
use Rattle.cv_values.specs.Order.{text_cmp}
use Rattle.cv_values.specs.Sizes.{size_of, has_many, is_bad_name}
use Rattle.cv_values.specs.Value.{Value, int, boolean, string, bytes, array, object, values_of, list_of, Members, members_of, pairs_of, depth_of}
use Rattle.fn_ops.specs.declared.fault.OpFault.{OpFault}
use Rattle.fn_ops.specs.declared.fault.OpFault.TheVariants.{Type_, Overflow, DivisionByZero, NoField, OutOfRange, BadName, TooDeep, TooMany, TooLarge}

-- a value, or why there is none
abbrev pub Given : Type 0
Given = Result Value OpFault

-- a value that an operation makes is within the limits: of nesting, of each array and object, and of size
abbrev pub made : Value → Given
made v =
    if nat_lt 96 (depth_of v) then Err TooDeep
    else (if has_many v then Err TooMany
    else (if nat_lt 8388608 (size_of v) then Err TooLarge
    else Ok v))

-- the array of these items
abbrev pub array_of : List Value → Given
array_of vs = made (array (values_of vs))

-- whether an integer has 64 bits
abbrev pub fits : ℤ → Bool
fits (pos n) = nat_lt n (2 ^ 63)
fits (negsuc n) = nat_lt n (2 ^ 63)

-- the result of arithmetic
abbrev pub integer : ℤ → Given
integer z = if fits z then Ok (int z) else Err Overflow

-- the value, or the fault where there is none
abbrev pub some_or : OpFault → Option Value → Given
some_or e None = Err e
some_or e (Some v) = Ok v

-- two integers are added, two strings joined
abbrev pub add : Value → Value → Given
add (int a) (int b) = integer (a +ℤ b)
add (string s) (string t) = made (string (s ++ t))
add a b = Err Type_

-- the difference of two integers
abbrev pub subtract : Value → Value → Given
subtract (int a) (int b) = integer (a -ℤ b)
subtract a b = Err Type_

-- the product of two integers
abbrev pub multiply : Value → Value → Given
multiply (int a) (int b) = integer (a *ℤ b)
multiply a b = Err Type_

-- the divisor that is refused
abbrev pub is_zero : ℤ → Bool
is_zero (pos n) = n == 0
is_zero (negsuc n) = false

-- the quotient, towards zero
abbrev pub divide : Value → Value → Given
divide (int a) (int b) = if is_zero b then Err DivisionByZero else integer (int_div a b)
divide a b = Err Type_

-- what the quotient leaves, with the sign of a; refused where the quotient is
abbrev pub remainder : Value → Value → Given
remainder (int a) (int b) =
    if is_zero b then Err DivisionByZero
    else (if fits (int_div a b) then Ok (int (int_rem a b)) else Err Overflow)
remainder a b = Err Type_

-- the negative of an integer
abbrev pub negate : Value → Given
negate (int a) = integer (neg_ℤ a)
negate a = Err Type_

-- the other truth value
abbrev pub opposite : Value → Given
opposite (boolean b) = Ok (boolean (not b))
opposite a = Err Type_

-- the value at a name
abbrev pub field_of : List ℕ → Members → Option Value
field_of n ms = lookup (is_at (text_cmp n)) (pairs_of ms)

-- a field of an object by its name
abbrev pub field : Value → List ℕ → Given
field (object ms) n = some_or NoField (field_of n ms)
field a n = Err Type_

-- the item at a place, from 0
abbrev pub item_at : List Value → ℤ → Option Value
item_at vs (pos i) = slice_get vs i
item_at vs (negsuc i) = None

-- a field of an object by its name, an item of an array by its place
abbrev pub item : Value → Value → Given
item (object ms) (string n) = some_or NoField (field_of n ms)
item (array vs) (int i) = some_or OutOfRange (item_at (list_of vs) i)
item a b = Err Type_

-- a number of parts, as an integer
abbrev pub count : ℕ → Given
count n = Ok (int (pos n))

-- how many bytes, items or names
abbrev pub length_of : Value → Given
length_of (string s) = count (length s)
length_of (bytes s) = count (length s)
length_of (array vs) = count (length (list_of vs))
length_of (object ms) = count (length (pairs_of ms))
length_of a = Err Type_

-- whether an object has a name
abbrev pub has : Value → Value → Given
has (object ms) (string n) = Ok (boolean (is_some (field_of n ms)))
has a b = Err Type_

-- the array with v at its end
abbrev pub push : Value → Value → Given
push (array vs) v = array_of (list_of vs ++ v ∷ [])
push a v = Err Type_

-- the object with v at the name
abbrev pub set : Value → Value → Value → Given
set (object ms) (string n) v =
    if is_bad_name false n then Err BadName
    else made (object (members_of (with_member (pairs_of ms) n v)))
set a b v = Err Type_

-- the members of other names
abbrev pub without_field : List ℕ → Members → Members
without_field n ms = members_of (filter (λ m. not (is_at (text_cmp n) m.0)) (pairs_of ms))

-- the object without the name, whether it was there or not
abbrev pub without : Value → Value → Given
without (object ms) (string n) = made (object (without_field n ms))
without a b = Err Type_

-- the items from i on and before j, where 0, i, j and the length rise or are equal
abbrev pub part : List Value → ℤ → ℤ → Option (List Value)
part vs (pos i) (pos j) = if nat_le i j && nat_le j (length vs) then Some (slice_range vs i j) else None
part vs i j = None

-- the array of the items, or the fault where there are none
abbrev pub array_or : OpFault → Option (List Value) → Given
array_or e None = Err e
array_or e (Some vs) = array_of vs

-- a part of an array
abbrev pub slice : Value → Value → Value → Given
slice (array vs) (int i) (int j) = array_or OutOfRange (part (list_of vs) i j)
slice a b c = Err Type_

-- this many integers from i on
abbrev pub integers : ℤ → ℕ → List Value
integers i zero = []
integers i (suc n) = int i ∷ integers (i +ℤ pos 1) n

-- how many an integer counts: none below 0
abbrev pub count_of : ℤ → ℕ
count_of (pos n) = n
count_of (negsuc n) = 0

-- the integers from i on and before j, none where j is at most i; too many aren't even listed
abbrev pub range : Value → Value → Given
range (int i) (int j) =
    let n = count_of (j -ℤ i) in
    elim (nat_lt 8192 n) [ true ↦ Err TooMany | false ↦ array_of (integers i n) ]
range a b = Err Type_

-- the decimal text of an integer
abbrev pub show : Value → Given
show (int i) = made (string (signed_decimal i))
show a = Err Type_

-- the names of an object, in order
abbrev pub keys : Value → Given
keys (object ms) = array_of (map (λ n. string n) (keys_of (pairs_of ms)))
keys a = Err Type_

-- the object of these members, unless a name is bad
abbrev pub object_of : List (List ℕ × Value) → Given
object_of ms =
    if list_any (is_bad_name false) (keys_of ms) then Err BadName
    else made (object (members_of ms))
