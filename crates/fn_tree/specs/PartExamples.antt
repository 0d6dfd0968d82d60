-- Arrays, objects and the operations that are called by a word, worked out.
use Rattle.std.specs.Prelude.{◌≡◌, negsuc, true, false, [], ◌∷◌, codes}
use Rattle.cv_values.specs.Value.{int, boolean, string, bytes, array, object, values_of, members_of}
use Rattle.fn_tree.specs.ExampleModules.{number, words, listed, object_with, object_at, built, member_of, gave, with_value, IsWorth, HasError, x, minus, yes, one_by_zero, one_field, natural, nested, nested_value}
use Rattle.fn_tree.specs.SyntaxTree.{Expr, expr, item}
use Rattle.fn_tree.specs.declared.syntax.Builtin.TheVariants.{Len, Has, Push, Set, Without, Slice, Range, Show, Keys}

-- {a: 1}.b, whose error is another than that of 1 / 0
abbrev pub no_field : Expr
no_field = member_of one_field (codes "b")

-- arrays, objects and their parts; each is made from left to right
abbrev pub AreWorkedParts : Type 0
AreWorkedParts =
    IsWorth (listed (number 1 ∷ words (codes "a") ∷ [])) (array (values_of (natural 1 ∷ string (codes "a") ∷ [])))
    × IsWorth (listed []) (array (values_of []))
    × HasError (listed (number 1 ∷ one_by_zero ∷ [])) (codes "DivisionByZero")
    × HasError (listed (one_by_zero ∷ no_field ∷ [])) (codes "DivisionByZero")
    × HasError (listed (no_field ∷ one_by_zero ∷ [])) (codes "NoField")
    × IsWorth (object_with ((codes "b", number 1) ∷ (codes "_a", x) ∷ [])) (object (members_of ((codes "_a", natural 7) ∷ (codes "b", natural 1) ∷ [])))
    × IsWorth (object_with []) (object (members_of []))
    × HasError (object_at (codes "$a") x) (codes "BadName")
    × HasError (object_at [] x) (codes "BadName")
    × HasError (object_with ((codes "$a", x) ∷ (codes "b", one_by_zero) ∷ [])) (codes "DivisionByZero")
    × HasError (object_with ((codes "b", one_by_zero) ∷ (codes "a", no_field) ∷ [])) (codes "DivisionByZero")
    × HasError (object_with ((codes "b", no_field) ∷ (codes "a", one_by_zero) ∷ [])) (codes "NoField")
    × IsWorth (nested 96) (nested_value 96)
    × HasError (nested 97) (codes "TooDeep")
    × HasError (object_at (codes "$a") (nested 96)) (codes "BadName")
    × IsWorth (member_of one_field (codes "a")) (natural 1)
    × HasError (member_of one_field (codes "b")) (codes "NoField")
    × HasError (member_of x (codes "a")) (codes "TypeError")
    × IsWorth (expr 0 (item one_field (words (codes "a")))) (natural 1)
    × HasError (expr 0 (item one_field (words (codes "b")))) (codes "NoField")
    × HasError (expr 0 (item one_field (number 0))) (codes "TypeError")
    × IsWorth (expr 0 (item (listed (number 4 ∷ x ∷ [])) (number 1))) (natural 7)
    × HasError (expr 0 (item (listed (x ∷ [])) (number 1))) (codes "OutOfRange")
    × HasError (expr 0 (item (listed (x ∷ [])) (minus (number 1)))) (codes "OutOfRange")
    × HasError (expr 0 (item (listed (x ∷ [])) (words (codes "a")))) (codes "TypeError")
    × HasError (expr 0 (item x one_by_zero)) (codes "DivisionByZero")
    × HasError (expr 0 (item no_field one_by_zero)) (codes "NoField")

-- operations that are called by a word
abbrev pub AreWorkedBuiltins : Type 0
AreWorkedBuiltins =
    IsWorth (built Len (words (codes "abc") ∷ [])) (natural 3)
    × (with_value (bytes (1 ∷ 2 ∷ [])) (built Len (x ∷ [])) ≡ gave (natural 2) 1)
    × IsWorth (built Len (listed (x ∷ []) ∷ [])) (natural 1)
    × IsWorth (built Len (one_field ∷ [])) (natural 1)
    × HasError (built Len (x ∷ [])) (codes "TypeError")
    × IsWorth (built Has (one_field ∷ words (codes "a") ∷ [])) (boolean true)
    × IsWorth (built Has (one_field ∷ words (codes "b") ∷ [])) (boolean false)
    × HasError (built Has (one_field ∷ x ∷ [])) (codes "TypeError")
    × IsWorth (built Push (listed (x ∷ []) ∷ yes ∷ [])) (array (values_of (natural 7 ∷ boolean true ∷ [])))
    × HasError (built Push (x ∷ x ∷ [])) (codes "TypeError")
    × HasError (built Push (no_field ∷ one_by_zero ∷ [])) (codes "NoField")
    × HasError (built Push (listed [] ∷ nested 96 ∷ [])) (codes "TooDeep")
    × IsWorth (built Set (one_field ∷ words (codes "_b") ∷ x ∷ [])) (object (members_of ((codes "_b", natural 7) ∷ (codes "a", natural 1) ∷ [])))
    × IsWorth (built Set (one_field ∷ words (codes "a") ∷ x ∷ [])) (object (members_of ((codes "a", natural 7) ∷ [])))
    × HasError (built Set (one_field ∷ words [] ∷ x ∷ [])) (codes "BadName")
    × HasError (built Set (x ∷ words (codes "$") ∷ x ∷ [])) (codes "TypeError")
    × HasError (built Set (one_field ∷ words (codes "$") ∷ nested 96 ∷ [])) (codes "BadName")
    × IsWorth (built Without (one_field ∷ words (codes "a") ∷ [])) (object (members_of []))
    × IsWorth (built Without (one_field ∷ words (codes "b") ∷ [])) (object (members_of ((codes "a", natural 1) ∷ [])))
    × HasError (built Without (listed [] ∷ words (codes "a") ∷ [])) (codes "TypeError")
    × IsWorth (built Slice (listed (number 1 ∷ x ∷ yes ∷ []) ∷ number 1 ∷ number 2 ∷ [])) (array (values_of (natural 7 ∷ [])))
    × HasError (built Slice (listed (x ∷ []) ∷ number 0 ∷ number 2 ∷ [])) (codes "OutOfRange")
    × HasError (built Slice (listed (x ∷ []) ∷ minus (number 1) ∷ number 1 ∷ [])) (codes "OutOfRange")
    × HasError (built Slice (listed (x ∷ []) ∷ number 9 ∷ yes ∷ [])) (codes "TypeError")
    × IsWorth (built Range (minus (number 1) ∷ number 1 ∷ [])) (array (values_of (int (negsuc 0) ∷ natural 0 ∷ [])))
    × IsWorth (built Range (x ∷ number 1 ∷ [])) (array (values_of []))
    × HasError (built Range (number 0 ∷ number 8193 ∷ [])) (codes "TooMany")
    × HasError (built Range (number 0 ∷ yes ∷ [])) (codes "TypeError")
    × IsWorth (built Show (minus (number 42) ∷ [])) (string (codes "-42"))
    × HasError (built Show (yes ∷ [])) (codes "TypeError")
    × IsWorth (built Keys (object_with ((codes "b", x) ∷ (codes "a", x) ∷ []) ∷ [])) (array (values_of (string (codes "a") ∷ string (codes "b") ∷ [])))
    × HasError (built Keys (listed [] ∷ [])) (codes "TypeError")
    × HasError (built Keys (x ∷ x ∷ [])) (codes "TypeError")
