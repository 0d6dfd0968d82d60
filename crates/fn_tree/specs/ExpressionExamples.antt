-- Literals, variables, calls, operators and the moment, worked out: their value, their error, their cost.
use Rattle.std.specs.Prelude.{◌≡◌, negsuc, Bool, true, false, [], ◌∷◌, codes}
use Rattle.cv_values.specs.Value.{null, int, boolean, string, bytes}
use Rattle.fn_tree.specs.ExampleModules.{number, words, of_name, listed, object_at, calls, joined, member_of, function, twice, query_does, mutation_does, example, asks, mutates, with_x, gave, ended, with_value, IsWorth, HasError, x, minus, opposite, yes, no, greatest, least, one_by_zero, one_field, natural, late}
use Rattle.fn_tree.specs.PartExamples.{no_field, AreWorkedParts, AreWorkedBuiltins}
use Rattle.fn_tree.specs.Run.{Run, run}
use Rattle.fn_tree.specs.SyntaxTree.{Expr, expr, nothing, group, now, give_back, FunctionTree}
use Rattle.fn_tree.specs.declared.syntax.BinaryOp.TheVariants.{Or, And, Compare, Add, Subtract, Multiply, Divide, Remainder}
use Rattle.fn_tree.specs.declared.syntax.CompareOp.{CompareOp}
use Rattle.fn_tree.specs.declared.syntax.CompareOp.TheVariants.{Equal, NotEqual, Less, LessEqual, Greater, GreaterEqual}
use Rattle.fn_tree.specs.declared.syntax.Kind.TheVariants.{Helper}

-- literals, variables and round brackets
abbrev pub AreWorkedLiterals : Type 0
AreWorkedLiterals =
    IsWorth (number 5) (natural 5)
    × IsWorth (words (codes "ab")) (string (codes "ab"))
    × IsWorth yes (boolean true)
    × IsWorth no (boolean false)
    × IsWorth (expr 0 nothing) null
    × IsWorth x (natural 7)
    × IsWorth (expr 0 (group x)) (natural 7)
    × HasError (of_name (codes "y")) (codes "TypeError")
    × HasError (expr 0 (group one_by_zero)) (codes "DivisionByZero")

-- helper h(x) { .. }, behind `twice` and before `late`, and the query that calls it with 7
abbrev helper_does : Expr → FunctionTree
helper_does e = function Helper (codes "h") (codes "x" ∷ []) (give_back e ∷ [])

abbrev from_helper : Expr → Run
from_helper e = run (example (twice ∷ helper_does e ∷ late ∷ query_does (give_back (calls (codes "h") (x ∷ [])) ∷ []) ∷ [])) (asks (codes "q") (with_x (natural 7))) []

-- a call costs one unit when its arguments are there; a helper sees only those before it, and not itself
abbrev pub AreWorkedCalls : Type 0
AreWorkedCalls =
    (with_value (natural 7) (calls (codes "twice") (x ∷ [])) ≡ gave (natural 14) 3)
    × (with_value (natural 7) (calls (codes "twice") (calls (codes "twice") (x ∷ []) ∷ [])) ≡ gave (natural 28) 5)
    × (with_value (natural 7) (calls (codes "twice") (yes ∷ [])) ≡ ended (codes "TypeError") 3)
    × (with_value (natural 7) (calls (codes "late") []) ≡ ended (codes "TypeError") 2)
    × HasError (calls (codes "twice") (one_by_zero ∷ [])) (codes "DivisionByZero")
    × HasError (calls (codes "twice") (one_by_zero ∷ no_field ∷ [])) (codes "DivisionByZero")
    × HasError (calls (codes "twice") (no_field ∷ one_by_zero ∷ [])) (codes "NoField")
    × (from_helper (calls (codes "twice") (x ∷ [])) ≡ gave (natural 14) 5)
    × (from_helper (calls (codes "late") []) ≡ ended (codes "TypeError") 4)
    × (from_helper (calls (codes "h") (x ∷ [])) ≡ ended (codes "TypeError") 4)
    × (with_value (natural 7) (calls (codes "twice") []) ≡ ended (codes "TypeError") 2)
    × (with_value (natural 7) (calls (codes "twice") (x ∷ x ∷ [])) ≡ ended (codes "TypeError") 2)
    × (run (example (mutation_does [] ∷ query_does (give_back (calls (codes "m") (x ∷ [])) ∷ []) ∷ [])) (asks (codes "q") (with_x null)) [] ≡ ended (codes "TypeError") 2)

-- arithmetic, and the order of errors: operands from left to right, then their kinds
abbrev pub AreWorkedSums : Type 0
AreWorkedSums =
    IsWorth (joined Add x (number 2)) (natural 9)
    × IsWorth (joined Add (words (codes "a")) (words (codes "b"))) (string (codes "ab"))
    × HasError (joined Add (number 1) (words (codes "b"))) (codes "TypeError")
    × HasError (joined Add greatest (number 1)) (codes "Overflow")
    × HasError (joined Add yes one_by_zero) (codes "DivisionByZero")
    × HasError (joined Add (member_of one_field (codes "b")) one_by_zero) (codes "NoField")
    × IsWorth (joined Subtract (number 1) (number 3)) (int (negsuc 1))
    × HasError (joined Subtract least (number 1)) (codes "Overflow")
    × HasError (joined Subtract (words (codes "a")) (words (codes "a"))) (codes "TypeError")
    × IsWorth (joined Multiply x (number 6)) (natural 42)
    × HasError (joined Multiply greatest (number 2)) (codes "Overflow")
    × IsWorth (joined Divide x (number 2)) (natural 3)
    × IsWorth (joined Divide (minus x) (number 2)) (int (negsuc 2))
    × HasError (joined Divide (words (codes "a")) (number 0)) (codes "TypeError")
    × HasError (joined Divide least (minus (number 1))) (codes "Overflow")
    × IsWorth (joined Remainder (minus x) (number 2)) (int (negsuc 0))
    × IsWorth (joined Remainder x (minus (number 2))) (natural 1)
    × HasError (joined Remainder x (number 0)) (codes "DivisionByZero")
    × HasError (joined Remainder least (minus (number 1))) (codes "Overflow")
    × IsWorth (minus x) (int (negsuc 6))
    × IsWorth least (int (negsuc 9223372036854775807))
    × HasError (minus least) (codes "Overflow")
    × HasError (minus yes) (codes "TypeError")
    × IsWorth (opposite yes) (boolean false)
    × HasError (opposite x) (codes "TypeError")

-- what a comparison says where the left side is less than, equal to and greater than the right one
abbrev Says : CompareOp → (less same more : Bool) → Type 0
Says op less same more =
    IsWorth (joined (Compare op) (number 6) x) (boolean less)
    × IsWorth (joined (Compare op) x x) (boolean same)
    × IsWorth (joined (Compare op) (number 8) x) (boolean more)

abbrev pub AreWorkedOrders : Type 0
AreWorkedOrders =
    Says Equal false true false
    × Says NotEqual true false true
    × Says Less true false false
    × Says LessEqual true true false
    × Says Greater false false true
    × Says GreaterEqual false true true

-- any two values are compared, by kind first
abbrev pub AreWorkedComparisons : Type 0
AreWorkedComparisons =
    IsWorth (joined (Compare Equal) x (number 7)) (boolean true)
    × IsWorth (joined (Compare Equal) (number 1) (words (codes "1"))) (boolean false)
    × IsWorth (joined (Compare NotEqual) one_field (object_at (codes "a") (number 2))) (boolean true)
    × IsWorth (joined (Compare Less) (expr 0 nothing) (minus x)) (boolean true)
    × IsWorth (joined (Compare Less) (number 9) no) (boolean true)
    × IsWorth (joined (Compare Less) yes (words [])) (boolean true)
    × IsWorth (joined (Compare LessEqual) (listed (number 1 ∷ [])) (listed (number 1 ∷ number 0 ∷ []))) (boolean true)
    × IsWorth (joined (Compare Greater) (words (codes "b")) (words (codes "ab"))) (boolean true)
    × IsWorth (joined (Compare Greater) one_field (listed [])) (boolean true)
    × IsWorth (joined (Compare GreaterEqual) (number 6) x) (boolean false)
    × (with_value (bytes (9 ∷ [])) (joined (Compare Greater) x (words (codes "a"))) ≡ gave (boolean true) 1)
    × HasError (joined (Compare Equal) yes one_by_zero) (codes "DivisionByZero")
    × HasError (joined (Compare Equal) no_field one_by_zero) (codes "NoField")

-- the right side is left out where the left one decides
abbrev pub AreWorkedTruths : Type 0
AreWorkedTruths =
    IsWorth (joined And no one_by_zero) (boolean false)
    × IsWorth (joined And yes no) (boolean false)
    × IsWorth (joined And yes yes) (boolean true)
    × HasError (joined And yes one_by_zero) (codes "DivisionByZero")
    × HasError (joined And yes x) (codes "TypeError")
    × HasError (joined And x one_by_zero) (codes "TypeError")
    × IsWorth (joined Or yes one_by_zero) (boolean true)
    × IsWorth (joined Or no yes) (boolean true)
    × IsWorth (joined Or no no) (boolean false)
    × HasError (joined Or no one_by_zero) (codes "DivisionByZero")
    × HasError (joined Or no x) (codes "TypeError")
    × HasError (joined Or x yes) (codes "TypeError")

-- the moment of a mutation's call; a query has none
abbrev pub AreWorkedMoments : Type 0
AreWorkedMoments =
    (run (example (mutation_does (give_back (expr 0 now) ∷ []) ∷ [])) (mutates 1 (codes "m") (with_x null)) [] ≡ gave (natural 5) 1)
    × HasError (expr 0 now) (codes "TypeError")

abbrev pub IsWorkedExpressions : Type 0
IsWorkedExpressions = AreWorkedLiterals × AreWorkedCalls × AreWorkedSums × AreWorkedOrders × AreWorkedComparisons × AreWorkedTruths × AreWorkedMoments × AreWorkedParts × AreWorkedBuiltins
