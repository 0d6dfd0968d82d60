-- The start and the end of a run, worked out: which function, with which arguments, how large a reply, and the texts of errors.
use Rattle.std.specs.Prelude.{◌≡◌, pos, Some, None, ℕ, List, [], ◌∷◌, map, codes}
use Rattle.cv_values.specs.Value.{string, array, values_of}
use Rattle.cv_values.specs.declared.check.ValueFault.TheVariants as value_faults
use Rattle.fn_ops.specs.declared.fault.OpFault.TheVariants as op_faults
use Rattle.fn_tree.specs.Actions.{op_text, value_text, quota_text}
use Rattle.fn_tree.specs.ExampleModules.{named, number, of_name, listed, object_at, function, twice, query_does, mutation_does, example, asks, mutates, with_x, gave, ended, x, natural}
use Rattle.fn_tree.specs.Functions.{Start, mutation_limits, limits_of}
use Rattle.fn_tree.specs.Run.{Run, run, run_within}
use Rattle.fn_tree.specs.Scan.{of_cost, of_rows, of_size, of_read}
use Rattle.fn_tree.specs.SyntaxTree.{expr, insert, evaluate, give_back, ModuleTree}
use Rattle.fn_tree.specs.declared.syntax.Kind.TheVariants.{Query}

-- a query and a mutation of different texts, and a query of two parameters that gives them
abbrev three_functions : ModuleTree
three_functions = example (twice ∷ query_does (give_back x ∷ []) ∷ mutation_does (give_back x ∷ [])
    ∷ function Query (codes "a/b:two") (codes "x" ∷ codes "b" ∷ []) (give_back (listed (x ∷ of_name (codes "b") ∷ [])) ∷ []) ∷ [])

abbrev starts : Start → Run
starts s = run three_functions s []

-- the function is the one of exactly this text and kind, and the arguments' names are exactly the parameters'
abbrev pub AreWorkedStarts : Type 0
AreWorkedStarts =
    (starts (asks (codes "q") (with_x (natural 3))) ≡ gave (natural 3) 1)
    × (starts (mutates 1 (codes "m") (with_x (natural 3))) ≡ gave (natural 3) 1)
    × (starts (asks (codes "a/b:two") ((codes "b", natural 4) ∷ (codes "x", natural 3) ∷ [])) ≡ gave (array (values_of (natural 3 ∷ natural 4 ∷ []))) 1)
    × (starts (asks (codes "m") (with_x (natural 3))) ≡ ended (codes "UnknownFunction") 0)
    × (starts (mutates 1 (codes "q") (with_x (natural 3))) ≡ ended (codes "UnknownFunction") 0)
    × (starts (asks (codes "twice") (with_x (natural 3))) ≡ ended (codes "UnknownFunction") 0)
    × (starts (mutates 1 (codes "twice") (with_x (natural 3))) ≡ ended (codes "UnknownFunction") 0)
    × (starts (asks (codes "a/b:tw") []) ≡ ended (codes "UnknownFunction") 0)
    × (starts (asks (codes "none") []) ≡ ended (codes "UnknownFunction") 0)
    × (starts (asks (codes "q") []) ≡ ended (codes "BadArguments") 0)
    × (starts (asks (codes "q") ((codes "y", natural 3) ∷ [])) ≡ ended (codes "BadArguments") 0)
    × (starts (asks (codes "q") ((codes "x", natural 3) ∷ (codes "y", natural 3) ∷ [])) ≡ ended (codes "BadArguments") 0)
    × (starts (asks (codes "a/b:two") ((codes "a", natural 3) ∷ (codes "x", natural 3) ∷ [])) ≡ ended (codes "BadArguments") 0)

-- insert("t", {v: 1}); return x;
abbrev replies : List ℕ → Run
replies s = run_within (record mutation_limits { reply = 9 })
    (example (mutation_does (evaluate (expr 0 (insert (named (codes "t")) (object_at (codes "v") (number 1)))) ∷ give_back x ∷ []) ∷ []))
    (mutates 1 (codes "m") (with_x (string s))) []

-- a text of 7 bytes has size 9; of a reply that is too large the writes are dropped
abbrev pub AreWorkedReplies : Type 0
AreWorkedReplies =
    ((replies (codes "1234567")).reply ≡ (gave (string (codes "1234567")) 2).reply)
    × (replies (codes "12345678") ≡ ended (codes "TooLarge") 2)

-- the limits of a query and of a mutation
abbrev pub AreWorkedLimits : Type 0
AreWorkedLimits =
    (limits_of None ≡ record { cost = 100000; rows = 16384; size = 8388608; ranges = 1024; writes = 8192; written = 8388608; reply = 1048576 })
    × (limits_of (Some (record { session = 1; request = 1; now = pos 0 }))
    ≡ record { cost = 100000; rows = 16384; size = 8388608; ranges = 4096; writes = 8192; written = 8388608; reply = 1048576 })

-- the text of an operation's fault, of a fault of fields to be stored, and of a quota is its name; that of the rows of one read is the one of an array that is too long
abbrev pub AreWorkedTexts : Type 0
AreWorkedTexts =
    (map op_text (op_faults.Type_ ∷ op_faults.Overflow ∷ op_faults.DivisionByZero ∷ op_faults.NoField ∷ op_faults.OutOfRange ∷ op_faults.BadName
    ∷ op_faults.TooDeep ∷ op_faults.TooMany ∷ op_faults.TooLarge ∷ [])
    ≡ codes "TypeError" ∷ codes "Overflow" ∷ codes "DivisionByZero" ∷ codes "NoField" ∷ codes "OutOfRange" ∷ codes "BadName"
    ∷ codes "TooDeep" ∷ codes "TooMany" ∷ codes "TooLarge" ∷ [])
    × (map value_text (value_faults.TooDeep ∷ value_faults.TooMany ∷ value_faults.BadName ∷ value_faults.TooLarge ∷ [])
    ≡ codes "TooDeep" ∷ codes "TooMany" ∷ codes "BadName" ∷ codes "TooLarge" ∷ [])
    × (map quota_text (of_cost ∷ of_rows ∷ of_size ∷ of_read ∷ []) ≡ codes "CostLimit" ∷ codes "RowLimit" ∷ codes "ReadLimit" ∷ codes "TooMany" ∷ [])
