-- Each form of statement, worked out: what it gives, its error, its cost, and where the cost's limit stops it.
use Rattle.std.specs.Prelude.{◌≡◌, ℕ, List, [], ◌∷◌, ◌++◌, length, codes}
use Rattle.cv_values.specs.Value.{null, array, values_of}
use Rattle.fn_tree.specs.ExampleModules.{named, number, words, of_name, listed, built, calls, joined, body, function, twice, query_does, example, asks, with_x, gave, ended, x, yes, one_by_zero, natural}
use Rattle.fn_tree.specs.Functions.{query_limits}
use Rattle.fn_tree.specs.Meaning.{throw_text}
use Rattle.fn_tree.specs.Run.{Run, run, run_within}
use Rattle.fn_tree.specs.SyntaxTree.{Expr, Act, declare, assign, evaluate, choose, each, give_back, throw, no_else, or_else, FunctionTree, ModuleTree}
use Rattle.fn_tree.specs.declared.syntax.BinaryOp.TheVariants.{Compare, Add, Multiply}
use Rattle.fn_tree.specs.declared.syntax.Builtin.TheVariants.{Range}
use Rattle.fn_tree.specs.declared.syntax.CompareOp.TheVariants.{Equal, Less}
use Rattle.fn_tree.specs.declared.syntax.Kind.TheVariants.{Helper}

-- let n = e; and n = e;
abbrev lets : List ℕ → Expr → Act
lets n e = declare (named n) e

abbrev sets : List ℕ → Expr → Act
sets n e = assign (named n) e

-- if (e) { .. }
abbrev when : Expr → List Act → Act
when e acts = choose e (body acts) no_else

-- for (n in e) { .. }
abbrev loops : List ℕ → Expr → List Act → Act
loops n e acts = each (named n) e (body acts)

-- throw "no";
abbrev throws_no : Act
throws_no = throw (words (codes "no"))

abbrev plus : Expr → Expr → Expr
plus a b = joined Add a b

abbrev y : Expr
y = of_name (codes "y")

abbrev i : Expr
i = of_name (codes "i")

abbrev j : Expr
j = of_name (codes "j")

abbrev up_to_x : Expr
up_to_x = built Range (number 0 ∷ x ∷ [])

-- for (i in range(0, x)) { for (j in range(0, x)) { if (i + j == 2) { return i * 10 + j; } } } return 99;
abbrev finds : FunctionTree
finds = function Helper (codes "finds") (codes "x" ∷ [])
    (loops (codes "i") up_to_x (loops (codes "j") up_to_x
    (when (joined (Compare Equal) (plus i j) (number 2)) (give_back (plus (joined Multiply i (number 10)) j) ∷ []) ∷ []) ∷ [])
    ∷ give_back (number 99) ∷ [])

-- x = x + 1; return x;
abbrev raises : FunctionTree
raises = function Helper (codes "raises") (codes "x" ∷ []) (sets (codes "x") (plus x (number 1)) ∷ give_back x ∷ [])

abbrev rests : FunctionTree
rests = function Helper (codes "rests") [] []

abbrev refuses : FunctionTree
refuses = function Helper (codes "refuses") [] (throws_no ∷ [])

abbrev module_of : List Act → ModuleTree
module_of acts = example (twice ∷ finds ∷ raises ∷ rests ∷ refuses ∷ query_does acts ∷ [])

-- a query of these statements, where x is 3
abbrev does : List Act → Run
does acts = run (module_of acts) (asks (codes "q") (with_x (natural 3))) []

-- the same, within this cost
abbrev does_within : ℕ → List Act → Run
does_within cost acts = run_within (record query_limits { cost = cost }) (module_of acts) (asks (codes "q") (with_x (natural 3))) []

-- let, assignment, a bare expression, return, and the end of a body
abbrev pub AreWorkedSteps : Type 0
AreWorkedSteps =
    (does (lets (codes "y") (plus x (number 1)) ∷ sets (codes "y") (joined Multiply y (number 2)) ∷ give_back y ∷ []) ≡ gave (natural 8) 3)
    × (does (evaluate (calls (codes "twice") (x ∷ [])) ∷ []) ≡ gave null 3)
    × (does [] ≡ gave null 0)
    × (does (give_back (calls (codes "rests") []) ∷ []) ≡ gave null 2)
    × (does (give_back (number 1) ∷ throws_no ∷ []) ≡ gave (natural 1) 1)
    × (does (lets (codes "y") one_by_zero ∷ throws_no ∷ []) ≡ ended (codes "DivisionByZero") 1)
    × (does (lets (codes "y") (plus y y) ∷ []) ≡ ended (codes "TypeError") 1)
    × (does (sets (codes "y") (number 1) ∷ []) ≡ ended (codes "TypeError") 1)
    × (does (lets (codes "y") (calls (codes "raises") (x ∷ [])) ∷ give_back (listed (x ∷ y ∷ [])) ∷ []) ≡ gave (array (values_of (natural 3 ∷ natural 4 ∷ []))) 5)

abbrev is_below : ℕ → Expr
is_below n = joined (Compare Less) x (number n)

-- if, and the variables of a block
abbrev pub AreWorkedChoices : Type 0
AreWorkedChoices =
    (does (choose (is_below 5) (body (give_back (number 1) ∷ [])) (or_else (body (give_back (number 2) ∷ []))) ∷ []) ≡ gave (natural 1) 2)
    × (does (choose (is_below 3) (body (give_back (number 1) ∷ [])) (or_else (body (give_back (number 2) ∷ []))) ∷ []) ≡ gave (natural 2) 2)
    × (does (when (is_below 5) (give_back (number 1) ∷ []) ∷ give_back (number 2) ∷ []) ≡ gave (natural 1) 2)
    × (does (when (is_below 3) (give_back (number 1) ∷ []) ∷ give_back (number 2) ∷ []) ≡ gave (natural 2) 2)
    × (does (when x [] ∷ []) ≡ ended (codes "TypeError") 1)
    × (does (lets (codes "y") (number 1)
    ∷ when yes (lets (codes "z") (number 5) ∷ sets (codes "y") (of_name (codes "z")) ∷ [])
    ∷ lets (codes "z") (number 9) ∷ give_back (plus y (of_name (codes "z"))) ∷ []) ≡ gave (natural 14) 6)
    × (does (when yes (lets (codes "z") (number 5) ∷ []) ∷ give_back (of_name (codes "z")) ∷ []) ≡ ended (codes "TypeError") 3)

-- for (i in [1, 2, 3]) { .. }
abbrev counts_up : List Act → Act
counts_up acts = loops (codes "i") (listed (number 1 ∷ number 2 ∷ number 3 ∷ [])) acts

-- for: items in order, one unit a turn, variables anew in each turn
abbrev pub AreWorkedLoops : Type 0
AreWorkedLoops =
    (does (lets (codes "y") (number 0) ∷ counts_up (sets (codes "y") (plus (joined Multiply y (number 10)) i) ∷ []) ∷ give_back y ∷ []) ≡ gave (natural 123) 9)
    × (does (lets (codes "y") (number 0) ∷ counts_up (lets (codes "z") i ∷ sets (codes "y") (plus y (of_name (codes "z"))) ∷ []) ∷ give_back y ∷ []) ≡ gave (natural 6) 12)
    × (does (loops (codes "i") (listed []) (throws_no ∷ []) ∷ []) ≡ gave null 1)
    × (does (loops (codes "i") x (throws_no ∷ []) ∷ []) ≡ ended (codes "TypeError") 1)
    × (does (counts_up [] ∷ give_back i ∷ []) ≡ ended (codes "TypeError") 5)
    × (does (counts_up (when (joined (Compare Equal) i (number 2)) (give_back i ∷ []) ∷ []) ∷ throws_no ∷ []) ≡ gave (natural 2) 6)
    × (does (give_back (plus (calls (codes "finds") (x ∷ [])) (number 1)) ∷ []) ≡ gave (natural 3) 12)

abbrev pub AreWorkedThrows : Type 0
AreWorkedThrows =
    (does (throws_no ∷ give_back x ∷ []) ≡ ended (codes "Thrown: no") 1)
    × (does (throw (words []) ∷ []) ≡ ended (codes "Thrown: ") 1)
    × (does (throw x ∷ []) ≡ ended (codes "TypeError") 1)
    × (does (evaluate (calls (codes "refuses") []) ∷ give_back x ∷ []) ≡ ended (codes "Thrown: no") 3)
    × ((s : List ℕ) → length s ≡ 1048576 → throw_text s ≡ codes "Thrown: " ++ s)
    × ((s : List ℕ) → length s ≡ 1048577 → throw_text s ≡ codes "TooLarge")

-- a unit too many ends the run before the statement, the turn or the helper does anything
abbrev pub AreWorkedLimitsOfCost : Type 0
AreWorkedLimitsOfCost =
    (does_within 0 (throws_no ∷ []) ≡ ended (codes "CostLimit") 1)
    × (does_within 1 (throws_no ∷ []) ≡ ended (codes "Thrown: no") 1)
    × (does_within 1 (evaluate x ∷ throws_no ∷ []) ≡ ended (codes "CostLimit") 2)
    × (does_within 1 (loops (codes "i") (listed (x ∷ [])) [] ∷ []) ≡ ended (codes "CostLimit") 2)
    × (does_within 2 (loops (codes "i") (listed (x ∷ [])) [] ∷ []) ≡ gave null 2)
    × (does_within 2 (loops (codes "i") (listed (x ∷ [])) (throws_no ∷ []) ∷ []) ≡ ended (codes "CostLimit") 3)
    × (does_within 1 (give_back (calls (codes "rests") []) ∷ []) ≡ ended (codes "CostLimit") 2)
    × (does_within 2 (give_back (calls (codes "rests") []) ∷ []) ≡ gave null 2)
    × (does_within 2 (give_back (calls (codes "twice") (x ∷ [])) ∷ []) ≡ ended (codes "CostLimit") 3)
    × (does_within 3 (give_back (calls (codes "twice") (x ∷ [])) ∷ []) ≡ gave (natural 6) 3)
    × (does_within 1 (give_back (calls (codes "twice") (one_by_zero ∷ [])) ∷ []) ≡ ended (codes "DivisionByZero") 1)

abbrev pub IsWorkedStatements : Type 0
IsWorkedStatements = AreWorkedSteps × AreWorkedChoices × AreWorkedLoops × AreWorkedThrows × AreWorkedLimitsOfCost
