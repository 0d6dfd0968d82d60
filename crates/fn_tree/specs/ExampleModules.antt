-- What the worked examples are made of: expressions, functions, a module with one table, calls, and what their runs give.
use Rattle.std.specs.Prelude.{◌≡◌, ℕ, zero, suc, pos, true, false, List, [], ◌∷◌, map, Some, None, codes}
use Rattle.cv_values.specs.Value.{Value, int, array, values_of}
use Rattle.fn_tree.specs.Course.{gives, failed}
use Rattle.fn_tree.specs.Functions.{Start}
use Rattle.fn_tree.specs.Run.{Run, run}
use Rattle.fn_tree.specs.SyntaxTree.{Expr, expr, integer, string, truth, variable, call, builtin, items, entries, field, unary, binary, Exprs, no_exprs, then_expr, Entries, no_entries, entry, stmt, Act, give_back, Stmts, no_stmts, then_stmt, FunctionTree, ModuleTree}
use Rattle.fn_tree.specs.declared.syntax.BinaryOp.{BinaryOp}
use Rattle.fn_tree.specs.declared.syntax.BinaryOp.TheVariants.{Subtract, Multiply, Divide}
use Rattle.fn_tree.specs.declared.syntax.Builtin.{Builtin}
use Rattle.fn_tree.specs.declared.syntax.Kind.{Kind}
use Rattle.fn_tree.specs.declared.syntax.Kind.TheVariants.{Query, Mutation, Helper}
use Rattle.fn_tree.specs.declared.syntax.Named.{Named}
use Rattle.fn_tree.specs.declared.syntax.UnaryOp.TheVariants.{Negate, Not}

abbrev pub named : List ℕ → Named
named s = record { at = 0; text = s; quoted = false }

-- ---- expressions

-- an integer from 0 on
abbrev pub number : ℕ → Expr
number n = expr 0 (integer (pos n))

-- a string
abbrev pub words : List ℕ → Expr
words s = expr 0 (string s)

-- a variable
abbrev pub of_name : List ℕ → Expr
of_name x = expr 0 (variable x)

abbrev pub exprs : List Expr → Exprs
exprs [] = no_exprs
exprs (e ∷ es) = then_expr e (exprs es)

abbrev pub fields : List (List ℕ × Expr) → Entries
fields [] = no_entries
fields (m ∷ ms) = entry (named m.0) m.1 (fields ms)

-- an array and an object
abbrev pub listed : List Expr → Expr
listed es = expr 0 (items (exprs es))

abbrev pub object_with : List (List ℕ × Expr) → Expr
object_with ms = expr 0 (entries (fields ms))

-- {n: e}
abbrev pub object_at : List ℕ → Expr → Expr
object_at n e = object_with ((n, e) ∷ [])

-- an operation and a helper's call
abbrev pub built : Builtin → List Expr → Expr
built b es = expr 0 (builtin b (exprs es))

abbrev pub calls : List ℕ → List Expr → Expr
calls h es = expr 0 (call h (exprs es))

abbrev pub joined : BinaryOp → Expr → Expr → Expr
joined op a b = expr 0 (binary op a b)

abbrev pub member_of : Expr → List ℕ → Expr
member_of e n = expr 0 (field e (named n))

-- ---- functions

abbrev pub body : List Act → Stmts
body [] = no_stmts
body (a ∷ more) = then_stmt (stmt 0 a) (body more)

abbrev pub function : Kind → List ℕ → List (List ℕ) → List Act → FunctionTree
function kind udf params acts = record { kind = kind; udf = udf; params = map named params; body = body acts; at = 0 }

-- helper twice(x) { return x * 2; }
abbrev pub twice : FunctionTree
twice = function Helper (codes "twice") (codes "x" ∷ []) (give_back (joined Multiply (of_name (codes "x")) (number 2)) ∷ [])

-- query q(x) { .. }, and the same as a mutation
abbrev pub query_does : List Act → FunctionTree
query_does acts = function Query (codes "q") (codes "x" ∷ []) acts

abbrev pub mutation_does : List Act → FunctionTree
mutation_does acts = function Mutation (codes "m") (codes "x" ∷ []) acts

-- table t { index by_n(v); } and these functions
abbrev pub example : List FunctionTree → ModuleTree
example fs = record {
  tables = record { name = named (codes "t"); indexes = record { name = named (codes "by_n"); fields = named (codes "v") ∷ [] } ∷ [] } ∷ [];
  functions = fs;
}

-- ---- calls

-- the call of a query
abbrev pub asks : (udf : List ℕ) → (args : List (List ℕ × Value)) → Start
asks udf args = record { udf = udf; args = args; origin = None }

-- the call of a mutation by session 1, at 5
abbrev pub mutates : (request : ℕ) → (udf : List ℕ) → (args : List (List ℕ × Value)) → Start
mutates request udf args = record { udf = udf; args = args; origin = Some (record { session = 1; request = request; now = pos 5 }) }

-- the argument x
abbrev pub with_x : Value → List (List ℕ × Value)
with_x v = (codes "x", v) ∷ []

-- ---- runs that read and write nothing

abbrev pub gave : Value → (cost : ℕ) → Run
gave v cost = record { reply = gives v; writes = []; reads = []; cost = cost }

abbrev pub ended : (why : List ℕ) → (cost : ℕ) → Run
ended why cost = record { reply = failed why; writes = []; reads = []; cost = cost }

-- ---- an expression in a query

-- helper late() { return 1; }, behind the query
abbrev pub late : FunctionTree
late = function Helper (codes "late") [] (give_back (number 1) ∷ [])

-- the run of a query that returns the expression, where x has this value
abbrev pub with_value : Value → Expr → Run
with_value x e = run (example (twice ∷ query_does (give_back e ∷ []) ∷ late ∷ [])) (asks (codes "q") (with_x x)) []

-- it gives a value, or ends with an error, at the cost of its one statement; x is 7
abbrev pub IsWorth : Expr → Value → Type 0
IsWorth e v = with_value (int (pos 7)) e ≡ gave v 1

abbrev pub HasError : Expr → List ℕ → Type 0
HasError e why = with_value (int (pos 7)) e ≡ ended why 1

abbrev pub x : Expr
x = of_name (codes "x")

abbrev pub minus : Expr → Expr
minus e = expr 0 (unary Negate e)

abbrev pub opposite : Expr → Expr
opposite e = expr 0 (unary Not e)

abbrev pub yes : Expr
yes = expr 0 (truth true)

abbrev pub no : Expr
no = expr 0 (truth false)

abbrev pub greatest : Expr
greatest = number 9223372036854775807

-- -9223372036854775807 - 1
abbrev pub least : Expr
least = joined Subtract (minus greatest) (number 1)

-- 1 / 0
abbrev pub one_by_zero : Expr
one_by_zero = joined Divide (number 1) (number 0)

-- {a: 1}
abbrev pub one_field : Expr
one_field = object_at (codes "a") (number 1)

abbrev pub natural : ℕ → Value
natural n = int (pos n)

-- brackets of arrays around brackets
abbrev pub nested : ℕ → Expr
nested zero = number 1
nested (suc n) = listed (nested n ∷ [])

abbrev pub nested_value : ℕ → Value
nested_value zero = natural 1
nested_value (suc n) = array (values_of (nested_value n ∷ []))
