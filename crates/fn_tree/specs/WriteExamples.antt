-- Writes, worked out: the documents that they leave, in which order, their errors and their cost.
use Rattle.std.specs.Prelude.{◌≡◌, ℕ, pos, false, List, [], ◌∷◌, Some, None, codes}
use Rattle.cv_values.specs.Value.{Value, null, string, object, members_of}
use Rattle.cv_values.specs.declared.doc.Doc.{Doc}
use Rattle.cv_keys.specs.Places.{PlaceInterval, below, above}
use Rattle.cv_keys.specs.declared.write.Write.{Write}
use Rattle.fn_tree.specs.CallExamples.{AreWorkedStarts, AreWorkedReplies, AreWorkedLimits, AreWorkedTexts}
use Rattle.fn_tree.specs.Course.{gives, asked, placed, ended as ended_with, stops, get_doc}
use Rattle.fn_tree.specs.ExampleDocuments.{id_of, text_of_id, numbered, three, of_three, rows_of, place_of, by_n, by_creation, of_id, read_ended, count_t, get_x, scan_n, last_rows}
use Rattle.fn_tree.specs.ExampleModules.{named, number, words, object_with, object_at, query_does, mutation_does, example, asks, mutates, with_x, ended, HasError, x, one_by_zero, natural, nested, nested_value}
use Rattle.fn_tree.specs.Functions.{mutation_limits, course_of}
use Rattle.fn_tree.specs.Actions.{Limits}
use Rattle.fn_tree.specs.PartExamples.{no_field}
use Rattle.fn_tree.specs.ReadExamples.{two_tables, id_in_u, text_in_u}
use Rattle.fn_tree.specs.Run.{Run, run, run_within}
use Rattle.fn_tree.specs.SyntaxTree.{Expr, expr, insert, delete, patch, replace, get, bound, no_bounds, all_rows, Act, evaluate, give_back, throw}
use Rattle.fn_tree.specs.declared.syntax.CompareOp.TheVariants.{Greater}

-- insert("t", e) and what is done to the document of x
abbrev inserts : Expr → Expr
inserts e = expr 0 (insert (named (codes "t")) e)

abbrev patches : Expr → Expr
patches e = expr 0 (patch x e)

abbrev replaces : Expr → Expr
replaces e = expr 0 (replace x e)

abbrev deletes : Expr
deletes = expr 0 (delete x)

-- {v: n} and {w: n}
abbrev v_of : ℕ → Expr
v_of n = object_at (codes "v") (number n)

abbrev w_of : ℕ → Expr
w_of n = object_at (codes "w") (number n)

abbrev v_is : ℕ → List ℕ × Value
v_is n = (codes "v", natural n)

abbrev w_is : ℕ → List ℕ × Value
w_is n = (codes "w", natural n)

-- a mutation by request 7 at 5 on the three documents, within some limits
abbrev does_within : Limits → Value → List Act → Run
does_within limits v acts = run_within limits (example (mutation_does acts ∷ [])) (mutates 7 (codes "m") (with_x v)) three

abbrev does : Value → List Act → Run
does v acts = does_within mutation_limits v acts

-- where x is the id of the document of 2
abbrev to_two : List Act → Run
to_two acts = does (string (text_of_id 2 0)) acts

-- the same in a query
abbrev asked_of_two : Expr → Run
asked_of_two e = run (example (query_does (evaluate e ∷ []) ∷ [])) (asks (codes "q") (with_x (string (text_of_id 2 0)))) three

abbrev wrote : Value → List Write → List PlaceInterval → (cost : ℕ) → Run
wrote v writes reads cost = record { reply = gives v; writes = writes; reads = reads; cost = cost }

-- the write of a new document, of one that was the document of 2, and of one that is gone
abbrev made_new : (ordinal : ℕ) → List (List ℕ × Value) → Write
made_new n fields = record { id = id_of 7 n; old = None; new = Some (record { id = id_of 7 n; creation = pos 5; fields = fields }) }

abbrev made_of_two : List (List ℕ × Value) → Write
made_of_two fields = record { id = id_of 2 0; old = Some (numbered 2 20); new = Some (record { id = id_of 2 0; creation = pos 20; fields = fields }) }

abbrev gone_two : Write
gone_two = record { id = id_of 2 0; old = Some (numbered 2 20); new = None }

-- insert: ids by the number of inserts before, and the moment of the call
abbrev pub AreWorkedInserts : Type 0
AreWorkedInserts =
    (does null (give_back (inserts (v_of 8)) ∷ []) ≡ wrote (string (text_of_id 7 0)) (made_new 0 (v_is 8 ∷ []) ∷ []) [] 1)
    × (does null (evaluate (inserts (v_of 8)) ∷ give_back (inserts (v_of 9)) ∷ [])
    ≡ wrote (string (text_of_id 7 1)) (made_new 0 (v_is 8 ∷ []) ∷ made_new 1 (v_is 9 ∷ []) ∷ []) [] 2)
    × (does null (evaluate (inserts (object_with ((codes "w", number 1) ∷ (codes "v", number 2) ∷ []))) ∷ []) ≡ wrote null (made_new 0 (v_is 2 ∷ w_is 1 ∷ []) ∷ []) [] 1)
    × (does null (evaluate (inserts (object_at (codes "v") (nested 63))) ∷ []) ≡ wrote null (made_new 0 ((codes "v", nested_value 63) ∷ []) ∷ []) [] 1)
    × (does null (evaluate (inserts (object_at (codes "_v") (nested 64))) ∷ []) ≡ ended (codes "TooDeep") 1)
    × (does null (evaluate (inserts (object_at (codes "_v") x)) ∷ []) ≡ ended (codes "BadName") 1)
    × (does null (evaluate (inserts (object_at (codes "v") (object_at (codes "_v") x))) ∷ []) ≡ ended (codes "BadName") 1)
    × (does null (evaluate (inserts x) ∷ []) ≡ ended (codes "TypeError") 1)
    × (does null (evaluate (inserts one_by_zero) ∷ []) ≡ ended (codes "DivisionByZero") 1)
    × HasError (inserts (v_of 8)) (codes "TypeError")
    × (run (two_tables (mutation_does (give_back (expr 0 (insert (named (codes "u")) (v_of 8))) ∷ []) ∷ [])) (mutates 7 (codes "m") (with_x null)) []
    ≡ wrote (string (text_in_u 7)) (record { id = id_in_u 7; old = None; new = Some (record { id = id_in_u 7; creation = pos 5; fields = v_is 8 ∷ [] }) } ∷ []) [] 1)

-- patch keeps the other fields, replace drops them, and one write tells of all that was done to an id
abbrev pub AreWorkedChanges : Type 0
AreWorkedChanges =
    (to_two (give_back (patches (w_of 5)) ∷ []) ≡ wrote null (made_of_two (v_is 2 ∷ w_is 5 ∷ []) ∷ []) (of_id 2 0 ∷ []) 2)
    × (to_two (give_back (patches (v_of 5)) ∷ []) ≡ wrote null (made_of_two (v_is 5 ∷ []) ∷ []) (of_id 2 0 ∷ []) 2)
    × (to_two (give_back (patches (object_with [])) ∷ []) ≡ wrote null (made_of_two (v_is 2 ∷ []) ∷ []) (of_id 2 0 ∷ []) 2)
    × (to_two (give_back (replaces (w_of 5)) ∷ []) ≡ wrote null (made_of_two (w_is 5 ∷ []) ∷ []) (of_id 2 0 ∷ []) 2)
    × (to_two (give_back deletes ∷ []) ≡ wrote null (gone_two ∷ []) (of_id 2 0 ∷ []) 2)
    × (to_two (evaluate (expr 0 (delete (inserts (v_of 8)))) ∷ give_back (number 1) ∷ []) ≡ wrote (natural 1) [] (of_id 7 0 ∷ []) 3)
    × (to_two (evaluate (expr 0 (patch (inserts (v_of 8)) (w_of 2))) ∷ []) ≡ wrote null (made_new 0 (v_is 8 ∷ w_is 2 ∷ []) ∷ []) (of_id 7 0 ∷ []) 2)
    × (to_two (evaluate (patches (v_of 5)) ∷ evaluate (inserts (v_of 6)) ∷ evaluate (patches (w_of 7)) ∷ [])
    ≡ wrote null (made_of_two (v_is 5 ∷ w_is 7 ∷ []) ∷ made_new 0 (v_is 6 ∷ []) ∷ []) (of_id 2 0 ∷ of_id 2 0 ∷ []) 5)
    × (to_two (evaluate (inserts (v_of 6)) ∷ evaluate (patches (v_of 5)) ∷ evaluate deletes ∷ [])
    ≡ wrote null (made_new 0 (v_is 6 ∷ []) ∷ gone_two ∷ []) (of_id 2 0 ∷ of_id 2 0 ∷ []) 5)
    × (to_two (evaluate (expr 0 (delete (inserts (v_of 8)))) ∷ give_back (inserts (v_of 9)) ∷ [])
    ≡ wrote (string (text_of_id 7 1)) (made_new 1 (v_is 9 ∷ []) ∷ []) (of_id 7 0 ∷ []) 3)

-- an error drops the writes and keeps the reads; errors in their order, the id's operand before the object's; in a query nothing is changed or read
abbrev pub AreWorkedRefusals : Type 0
AreWorkedRefusals =
    (to_two (evaluate deletes ∷ throw (words (codes "no")) ∷ []) ≡ read_ended (codes "Thrown: no") (of_id 2 0 ∷ []) 3)
    × (to_two (evaluate deletes ∷ evaluate deletes ∷ []) ≡ read_ended (codes "NoDocument") (of_id 2 0 ∷ of_id 2 0 ∷ []) 3)
    × (does (string (text_of_id 9 0)) (evaluate deletes ∷ []) ≡ read_ended (codes "NoDocument") (of_id 9 0 ∷ []) 1)
    × (does (string (text_of_id 9 0)) (evaluate (patches (object_at (codes "_v") x)) ∷ []) ≡ read_ended (codes "NoDocument") (of_id 9 0 ∷ []) 1)
    × (does (string (text_of_id 9 0)) (evaluate (replaces (number 5)) ∷ []) ≡ ended (codes "TypeError") 1)
    × (to_two (evaluate (patches (object_at (codes "_id") x)) ∷ []) ≡ read_ended (codes "BadName") (of_id 2 0 ∷ []) 2)
    × (to_two (evaluate (replaces (object_at (codes "_v") x)) ∷ []) ≡ read_ended (codes "BadName") (of_id 2 0 ∷ []) 2)
    × (does (natural 5) (evaluate (patches (number 5)) ∷ []) ≡ ended (codes "TypeError") 1)
    × (does (string (codes "0")) (evaluate (patches (number 5)) ∷ []) ≡ ended (codes "BadId") 1)
    × (does (string (codes "0")) (evaluate (replaces (number 5)) ∷ []) ≡ ended (codes "BadId") 1)
    × (does (string (codes "0")) (evaluate (patches one_by_zero) ∷ []) ≡ ended (codes "DivisionByZero") 1)
    × (does null (evaluate (expr 0 (patch no_field one_by_zero)) ∷ []) ≡ ended (codes "NoField") 1)
    × (does null (evaluate (expr 0 (patch one_by_zero no_field)) ∷ []) ≡ ended (codes "DivisionByZero") 1)
    × (does null (evaluate (expr 0 (replace no_field one_by_zero)) ∷ []) ≡ ended (codes "NoField") 1)
    × (does null (evaluate (expr 0 (replace one_by_zero no_field)) ∷ []) ≡ ended (codes "DivisionByZero") 1)
    × (does (string (codes "0")) (evaluate deletes ∷ []) ≡ ended (codes "BadId") 1)
    × (does (natural 5) (evaluate deletes ∷ []) ≡ ended (codes "TypeError") 1)
    × HasError deletes (codes "TypeError")
    × (asked_of_two deletes ≡ ended (codes "TypeError") 1)
    × (asked_of_two (patches (w_of 5)) ≡ ended (codes "TypeError") 1)
    × (asked_of_two (replaces (w_of 5)) ≡ ended (codes "TypeError") 1)

abbrev object_of_new : ℕ → Value
object_of_new n = object (members_of ((codes "_creationTime", natural 5) ∷ (codes "_id", string (text_of_id 7 0)) ∷ v_is n ∷ []))

abbrev object_of_two : ℕ → Value
object_of_two n = object (members_of ((codes "_creationTime", natural 20) ∷ (codes "_id", string (text_of_id 2 0)) ∷ v_is n ∷ []))

-- a read sees what the run itself wrote, and may end at such a row
abbrev pub AreWorkedOwnRows : Type 0
AreWorkedOwnRows =
    let adds_nine = inserts (v_of 9) in
    let writes = made_new 0 (v_is 9 ∷ []) ∷ [] in
    (does null (evaluate adds_nine ∷ give_back (last_rows 2) ∷ [])
    ≡ wrote (rows_of (object_of_new 9 ∷ of_three ∷ [])) writes (by_n (below (place_of 3 10)) (above []) ∷ []) 4)
    × (does null (evaluate adds_nine ∷ give_back (last_rows 1) ∷ [])
    ≡ wrote (rows_of (object_of_new 9 ∷ [])) writes (by_n (below (Some (natural 9) ∷ Some (natural 5) ∷ Some (string (text_of_id 7 0)) ∷ [])) (above []) ∷ []) 3)
    × (does null (give_back (expr 0 (get adds_nine)) ∷ []) ≡ wrote (object_of_new 9) writes (of_id 7 0 ∷ []) 2)
    × (does null (evaluate adds_nine ∷ give_back count_t ∷ []) ≡ wrote (natural 4) writes (by_creation ∷ []) 6)
    × (to_two (evaluate (patches (v_of 9)) ∷ give_back (scan_n (bound (named (codes "v")) Greater (number 2) no_bounds) false all_rows) ∷ [])
    ≡ wrote (rows_of (of_three ∷ object_of_two 9 ∷ [])) (made_of_two (v_is 9 ∷ []) ∷ []) (of_id 2 0 ∷ by_n (above (Some (natural 2) ∷ [])) (above []) ∷ []) 5)
    × (to_two (evaluate deletes ∷ give_back get_x ∷ []) ≡ wrote null (gone_two ∷ []) (of_id 2 0 ∷ of_id 2 0 ∷ []) 3)

-- what is asked and put, in order: each put tells of the document as it is by then
abbrev pub AreWorkedPuts : Type 0
AreWorkedPuts =
    let five : Doc = record { id = id_of 2 0; creation = pos 20; fields = v_is 5 ∷ [] } in
    let acts : List Act = evaluate (patches (v_of 5)) ∷ evaluate (inserts (v_of 6)) ∷ evaluate deletes ∷ [] in
    (stops (course_of (example (mutation_does acts ∷ [])) (mutates 7 (codes "m") (with_x (string (text_of_id 2 0))))) ((numbered 2 20 ∷ []) ∷ (five ∷ []) ∷ [])
    ≡ asked (get_doc (id_of 2 0) (record { cost = 99999; rows = 16384; size = 8388608 }))
    ∷ placed (record { id = id_of 2 0; old = Some (numbered 2 20); new = Some five })
    ∷ placed (record { id = id_of 7 0; old = None; new = Some (record { id = id_of 7 0; creation = pos 5; fields = v_is 6 ∷ [] }) })
    ∷ asked (get_doc (id_of 2 0) (record { cost = 99996; rows = 16383; size = 8388595 }))
    ∷ placed (record { id = id_of 2 0; old = Some five; new = None })
    ∷ ended_with (record { reply = gives null; cost = 5 }) ∷ [])

-- the limits with a small number of write operations, or of the size written
abbrev of_writes : ℕ → Limits
of_writes n = record mutation_limits { writes = n }

abbrev of_written : ℕ → Limits
of_written n = record mutation_limits { written = n }

-- a write too many, and a size too great; {v: n} has size 13, with w it has 24, and a delete has none
abbrev pub AreWorkedWriteLimits : Type 0
AreWorkedWriteLimits =
    let id : Value = string (text_of_id 2 0) in
    let twice : List Act = evaluate (inserts (v_of 8)) ∷ evaluate (inserts (v_of 9)) ∷ [] in
    let both : List Write = made_new 0 (v_is 8 ∷ []) ∷ made_new 1 (v_is 9 ∷ []) ∷ [] in
    (does_within (of_writes 2) null twice ≡ wrote null both [] 2)
    × (does_within (of_writes 1) null twice ≡ ended (codes "WriteLimit") 2)
    × (does_within (of_written 26) null twice ≡ wrote null both [] 2)
    × (does_within (of_written 25) null twice ≡ ended (codes "WriteSizeLimit") 2)
    × (does_within (record mutation_limits { writes = 0; written = 0 }) null twice ≡ ended (codes "WriteLimit") 1)
    × (does_within (of_writes 0) null (evaluate (inserts (object_at (codes "_v") x)) ∷ []) ≡ ended (codes "BadName") 1)
    × (does_within (of_written 24) id (evaluate (patches (w_of 5)) ∷ []) ≡ wrote null (made_of_two (v_is 2 ∷ w_is 5 ∷ []) ∷ []) (of_id 2 0 ∷ []) 2)
    × (does_within (of_written 23) id (evaluate (patches (w_of 5)) ∷ []) ≡ read_ended (codes "WriteSizeLimit") (of_id 2 0 ∷ []) 2)
    × (does_within (of_written 0) id (evaluate deletes ∷ []) ≡ wrote null (gone_two ∷ []) (of_id 2 0 ∷ []) 2)
    × (does_within (of_writes 0) id (evaluate deletes ∷ []) ≡ read_ended (codes "WriteLimit") (of_id 2 0 ∷ []) 2)
    × (does_within (record mutation_limits { ranges = 0 }) id (evaluate deletes ∷ []) ≡ ended (codes "RangeLimit") 1)

abbrev pub IsWorkedWrites : Type 0
IsWorkedWrites = AreWorkedInserts × AreWorkedChanges × AreWorkedRefusals × AreWorkedOwnRows × AreWorkedPuts × AreWorkedWriteLimits × AreWorkedStarts × AreWorkedReplies × AreWorkedLimits × AreWorkedTexts
