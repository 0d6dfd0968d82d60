-- Reads that pass a quota, worked out with small ones: the error, the interval up to the last row, the cost.
use Rattle.std.specs.Prelude.{◌≡◌, ℕ, zero, suc, ◌+◌, ◌/◌, ◌%◌, pos, false, true, List, [], ◌∷◌, Some, None, codes}
use Rattle.cv_values.specs.Value.{Value, null, string}
use Rattle.cv_keys.specs.Places.{below, above}
use Rattle.fn_tree.specs.Actions.{Limits}
use Rattle.fn_tree.specs.Course.{gives}
use Rattle.fn_tree.specs.Documents.{Docs}
use Rattle.fn_tree.specs.ExampleDocuments.{id_of, text_of_id, three, of_one, of_two, of_three, rows_of, place_of, by_n, by_creation, of_id, read_gave, read_ended, count_t, get_x, scan_n, first_rows, last_rows}
use Rattle.fn_tree.specs.ExampleModules.{object_with, built, query_does, mutation_does, example, asks, mutates, with_x, ended, x, natural}
use Rattle.fn_tree.specs.Functions.{query_limits}
use Rattle.fn_tree.specs.Run.{Run, run, run_within}
use Rattle.fn_tree.specs.Scan as quota
use Rattle.fn_tree.specs.SyntaxTree.{Expr, expr, patch, no_bounds, all_rows, Act, evaluate, give_back}
use Rattle.fn_tree.specs.declared.stop.Left.{Left}
use Rattle.fn_tree.specs.declared.syntax.Builtin.TheVariants.{Len}

-- a query on the three documents, each of size 13, within some limits
abbrev does : Limits → Value → List Act → Run
does limits v acts = run_within limits (example (query_does acts ∷ [])) (asks (codes "q") (with_x v)) three

abbrev looks : Limits → Expr → Run
looks limits e = does limits null (give_back e ∷ [])

abbrev up : Expr
up = scan_n no_bounds false all_rows

abbrev down : Expr
down = scan_n no_bounds true all_rows

-- the limits with one of them small
abbrev of_cost : ℕ → Limits
of_cost n = record query_limits { cost = n }

abbrev of_rows : ℕ → Limits
of_rows n = record query_limits { rows = n }

abbrev of_size : ℕ → Limits
of_size n = record query_limits { size = n }

abbrev of_ranges : ℕ → Limits
of_ranges n = record query_limits { ranges = n }

abbrev all_three : Run
all_three = read_gave (rows_of (of_one ∷ of_two ∷ of_three ∷ [])) (by_n (below []) (above []) ∷ []) 4

-- exactly a quota is fine; the row that passes it is the last one, and ends the run
abbrev pub AreWorkedQuotas : Type 0
AreWorkedQuotas =
    (looks (of_cost 4) up ≡ all_three)
    × (looks (of_cost 3) up ≡ read_ended (codes "CostLimit") (by_n (below []) (above (place_of 3 10)) ∷ []) 4)
    × (looks (of_cost 2) up ≡ read_ended (codes "CostLimit") (by_n (below []) (above (place_of 2 20)) ∷ []) 3)
    × (looks (of_cost 2) down ≡ read_ended (codes "CostLimit") (by_n (below (place_of 2 20)) (above []) ∷ []) 3)
    × (looks (of_cost 2) count_t ≡ read_ended (codes "CostLimit") (record by_creation { hi = above (Some (natural 20) ∷ Some (string (text_of_id 2 0)) ∷ []) } ∷ []) 3)
    × (looks (of_rows 3) up ≡ all_three)
    × (looks (of_rows 2) up ≡ read_ended (codes "RowLimit") (by_n (below []) (above (place_of 3 10)) ∷ []) 4)
    × (looks (of_rows 0) down ≡ read_ended (codes "RowLimit") (by_n (below (place_of 3 10)) (above []) ∷ []) 2)
    × (looks (of_size 39) up ≡ all_three)
    × (looks (of_size 38) up ≡ read_ended (codes "ReadLimit") (by_n (below []) (above (place_of 3 10)) ∷ []) 4)
    × (looks (of_size 25) down ≡ read_ended (codes "ReadLimit") (by_n (below (place_of 2 20)) (above []) ∷ []) 3)
    × (looks (record query_limits { cost = 2; rows = 1; size = 13 }) up ≡ read_ended (codes "CostLimit") (by_n (below []) (above (place_of 2 20)) ∷ []) 3)
    × (looks (record query_limits { rows = 1; size = 13 }) up ≡ read_ended (codes "RowLimit") (by_n (below []) (above (place_of 2 20)) ∷ []) 3)
    × (looks (of_rows 1) (first_rows 1) ≡ read_gave (rows_of (of_one ∷ [])) (by_n (below []) (above (place_of 1 30)) ∷ []) 2)
    × (looks (of_rows 1) (first_rows 2) ≡ read_ended (codes "RowLimit") (by_n (below []) (above (place_of 2 20)) ∷ []) 3)
    × (looks (of_rows 1) (last_rows 2) ≡ read_ended (codes "RowLimit") (by_n (below (place_of 2 20)) (above []) ∷ []) 3)
    × (does (of_rows 0) (string (text_of_id 2 0)) (give_back get_x ∷ []) ≡ read_ended (codes "RowLimit") (of_id 2 0 ∷ []) 2)
    × (does (of_rows 5) null (evaluate count_t ∷ give_back up ∷ [])
    ≡ read_ended (codes "RowLimit") (by_creation ∷ by_n (below []) (above (place_of 3 10)) ∷ []) 8)

-- one read may have 8,192 rows; of several quotas that are passed at once, the first of cost, rows, size and rows of this read counts
abbrev pub AreWorkedReadRows : Type 0
AreWorkedReadRows =
    let ample : Left = record { cost = 100000; rows = 16384; size = 8388608 } in
    (quota.passed ample 8192 8388608 ≡ None)
    × (quota.passed ample 8193 8388608 ≡ Some quota.of_read)
    × (quota.passed (record ample { size = 5 }) 8193 6 ≡ Some quota.of_size)
    × (quota.passed (record ample { rows = 8192; size = 5 }) 8193 6 ≡ Some quota.of_rows)
    × (quota.passed (record ample { cost = 8192; rows = 8192; size = 5 }) 8193 6 ≡ Some quota.of_cost)
    × (quota.passed (record ample { cost = 8192; rows = 8192; size = 5 }) 8192 5 ≡ None)

-- a read too many is not recorded; its operands come first
abbrev pub AreWorkedRanges : Type 0
AreWorkedRanges =
    (looks (of_ranges 1) count_t ≡ read_gave (natural 3) (by_creation ∷ []) 4)
    × (does (of_ranges 1) null (evaluate count_t ∷ give_back count_t ∷ []) ≡ read_ended (codes "RangeLimit") (by_creation ∷ []) 5)
    × (looks (of_ranges 0) (first_rows 0) ≡ ended (codes "RangeLimit") 1)
    × (does (of_ranges 1) null (evaluate (first_rows 0) ∷ evaluate up ∷ []) ≡ read_ended (codes "RangeLimit") (by_n (below []) (below []) ∷ []) 2)
    × (does (of_ranges 0) (string (text_of_id 2 0)) (evaluate get_x ∷ []) ≡ ended (codes "RangeLimit") 1)
    × (does (of_ranges 0) (string (codes "0")) (evaluate get_x ∷ []) ≡ ended (codes "BadId") 1)

-- so many fields, from the one of number i on, that each hold null
abbrev wide_from : (i count : ℕ) → List (List ℕ × Value)
wide_from i zero = []
wide_from i (suc count) = ((100 + i / 100) ∷ i % 100 ∷ [], null) ∷ wide_from (suc i) count

-- a document with so many fields
abbrev wide : ℕ → Docs
wide count = record { id = id_of 2 0; creation = pos 20; fields = wide_from 0 count } ∷ []

abbrev looks_wide : ℕ → Expr → Run
looks_wide count e = run (example (query_does (give_back e ∷ []) ∷ [])) (asks (codes "q") (with_x (string (text_of_id 2 0)))) (wide count)

-- an object has the id and the creation besides the fields, and may be too wide; a write makes no object
abbrev pub AreWorkedWideRows : Type 0
AreWorkedWideRows =
    (looks_wide 1022 (built Len (get_x ∷ [])) ≡ read_gave (natural 1024) (of_id 2 0 ∷ []) 2)
    × (looks_wide 1023 get_x ≡ read_ended (codes "TooMany") (of_id 2 0 ∷ []) 2)
    × (looks_wide 1023 up ≡ read_ended (codes "TooMany") (by_n (below []) (above []) ∷ []) 2)
    × (looks_wide 1023 count_t ≡ read_ended (codes "TooMany") (by_creation ∷ []) 2)
    × ((run (example (mutation_does (evaluate (expr 0 (patch x (object_with []))) ∷ []) ∷ [])) (mutates 7 (codes "m") (with_x (string (text_of_id 2 0)))) (wide 1023)).reply
    ≡ gives null)
