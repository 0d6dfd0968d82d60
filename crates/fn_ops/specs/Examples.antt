-- The operations on a few values.
use Rattle.std.specs.Prelude.{◌≡◌, ℕ, ◌-◌, ◌^◌, pos, negsuc, true, false, List, [], ◌∷◌, codes, Ok, Err}
use Rattle.cv_values.specs.Value.{Value, null, int, boolean, string, array, object, values_of, members_of}
use Rattle.fn_ops.specs.declared.fault.OpFault.TheVariants.{Type_, Overflow, DivisionByZero, NoField, OutOfRange, BadName, TooMany}
use Rattle.fn_ops.specs.Operations.{add, subtract, multiply, divide, remainder, negate, opposite, field, item, length_of, has, push, set, without, slice, range, show, keys, object_of}

-- an integer from 0 on
abbrev number : ℕ → Value
number n = int (pos n)

-- the negative of n + 1
abbrev minus_suc : ℕ → Value
minus_suc n = int (negsuc n)

-- the least integer of 64 bits
abbrev least : Value
least = minus_suc (2 ^ 63 - 1)

-- the greatest one
abbrev greatest : Value
greatest = number (2 ^ 63 - 1)

-- a string of these bytes
abbrev text : List ℕ → Value
text s = string s

-- an array of these items
abbrev list : List Value → Value
list vs = array (values_of vs)

-- {"a": 1, "b": 2}
abbrev two_fields : List (List ℕ × Value)
two_fields = (codes "a", number 1) ∷ (codes "b", number 2) ∷ []

-- the object of them
abbrev two : Value
two = object (members_of two_fields)

-- arithmetic
abbrev pub OnIntegers : Type 0
OnIntegers =
    (add (number 3) (minus_suc 4) ≡ Ok (minus_suc 1))
    × (add greatest (number 1) ≡ Err Overflow)
    × (add (number 1) (text []) ≡ Err Type_)
    × (subtract least (number 1) ≡ Err Overflow)
    × (multiply (minus_suc 1) (number 3) ≡ Ok (minus_suc 5))
    × (divide (minus_suc 6) (number 2) ≡ Ok (minus_suc 2))
    × (remainder (minus_suc 6) (number 2) ≡ Ok (minus_suc 0))
    × (remainder (number 7) (minus_suc 1) ≡ Ok (number 1))
    × (divide (number 1) (number 0) ≡ Err DivisionByZero)
    × (divide least (minus_suc 0) ≡ Err Overflow)
    × (remainder least (minus_suc 0) ≡ Err Overflow)
    × (negate least ≡ Err Overflow)
    × (opposite (boolean true) ≡ Ok (boolean false))
    × (show (minus_suc 41) ≡ Ok (text (codes "-42")))

-- strings and arrays
abbrev pub OnLists : Type 0
OnLists =
    (add (text (codes "a")) (text (codes "b")) ≡ Ok (text (codes "ab")))
    × (length_of (text (codes "abc")) ≡ Ok (number 3))
    × (push (list (null ∷ [])) (number 1) ≡ Ok (list (null ∷ number 1 ∷ [])))
    × (item (list (null ∷ [])) (number 0) ≡ Ok null)
    × (item (list (null ∷ [])) (number 1) ≡ Err OutOfRange)
    × (item (list (null ∷ [])) (minus_suc 0) ≡ Err OutOfRange)
    × (slice (list (null ∷ number 1 ∷ number 2 ∷ [])) (number 1) (number 2) ≡ Ok (list (number 1 ∷ [])))
    × (slice (list (null ∷ [])) (number 1) (number 1) ≡ Ok (list []))
    × (slice (list (null ∷ [])) (number 1) (number 0) ≡ Err OutOfRange)
    × (range (minus_suc 0) (number 2) ≡ Ok (list (minus_suc 0 ∷ number 0 ∷ number 1 ∷ [])))
    × (range (number 2) (number 2) ≡ Ok (list []))
    × (range least greatest ≡ Err TooMany)

-- objects
abbrev pub OnObjects : Type 0
OnObjects =
    (field two (codes "b") ≡ Ok (number 2))
    × (item two (text (codes "c")) ≡ Err NoField)
    × (has two (text (codes "a")) ≡ Ok (boolean true))
    × (set two (text (codes "a")) null ≡ Ok (object (members_of ((codes "a", null) ∷ (codes "b", number 2) ∷ []))))
    × (set two (text []) null ≡ Err BadName)
    × (set null (text []) null ≡ Err Type_)
    × (without two (text (codes "a")) ≡ Ok (object (members_of ((codes "b", number 2) ∷ []))))
    × (keys two ≡ Ok (list (text (codes "a") ∷ text (codes "b") ∷ [])))
    × (object_of two_fields ≡ Ok two)
    × (object_of ((codes "$a", null) ∷ []) ≡ Err BadName)
