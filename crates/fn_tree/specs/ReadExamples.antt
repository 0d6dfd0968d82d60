-- Reads, worked out: what they give, the interval that they consume, their errors and their cost.
use Rattle.std.specs.Prelude.{◌≡◌, ℕ, ◌+◌, pos, true, false, List, [], ◌∷◌, ◌++◌, Some, None, codes}
use Rattle.cv_values.specs.Value.{Value, null, string, object, members_of}
use Rattle.cv_values.specs.declared.doc.Doc.{Doc}
use Rattle.cv_values.specs.declared.ids.DocId.{DocId}
use Rattle.cv_keys.specs.Places.{below, above, PlaceInterval}
use Rattle.fn_tree.specs.Course.{Stop, asked, stops, get_doc, scan_rows}
use Rattle.fn_tree.specs.Documents.{Docs, same_id}
use Rattle.fn_tree.specs.ExampleDocuments.{id_of, text_of_id, numbered, three, of_one, of_two, of_three, rows_of, place_of, in_index, by_n, by_creation, of_id, read_gave, count_t, get_x, scan_n, first_rows, last_rows}
use Rattle.fn_tree.specs.ExampleModules.{named, number, words, query_does, example, asks, with_x, ended, minus, yes, one_by_zero, natural}
use Rattle.fn_tree.specs.Functions.{course_of}
use Rattle.fn_tree.specs.PartExamples.{no_field}
use Rattle.fn_tree.specs.QuotaExamples.{AreWorkedQuotas, AreWorkedReadRows, AreWorkedRanges, AreWorkedWideRows}
use Rattle.fn_tree.specs.Run.{Run, run}
use Rattle.fn_tree.specs.Schemas.{schema_of}
use Rattle.fn_tree.specs.SyntaxTree.{Expr, expr, scan, count, Bounds, no_bounds, bound, all_rows, up_to, evaluate, give_back, FunctionTree, ModuleTree}
use Rattle.fn_tree.specs.declared.syntax.CompareOp.{CompareOp}
use Rattle.fn_tree.specs.declared.syntax.CompareOp.TheVariants.{Equal, Less, LessEqual, Greater, GreaterEqual}

-- a bound on v, and then others
abbrev on_v : CompareOp → ℕ → Bounds → Bounds
on_v op n more = bound (named (codes "v")) op (number n) more

abbrev on_creation : CompareOp → ℕ → Bounds → Bounds
on_creation op n more = bound (named (codes "_creationTime")) op (number n) more

abbrev rows_with : Bounds → Expr
rows_with bounds = scan_n bounds false all_rows

-- a query that returns the expression, on some documents
abbrev seen : Docs → Value → Expr → Run
seen ds v e = run (example (query_does (give_back e ∷ []) ∷ [])) (asks (codes "q") (with_x v)) ds

-- on the three
abbrev looks : Expr → Run
looks e = seen three null e

-- get: the document, or null; its interval is that of the id
abbrev pub AreWorkedGets : Type 0
AreWorkedGets =
    (seen three (string (text_of_id 2 0)) get_x ≡ read_gave of_two (of_id 2 0 ∷ []) 2)
    × (seen three (string (text_of_id 9 0)) get_x ≡ read_gave null (of_id 9 0 ∷ []) 1)
    × (seen three (string (text_of_id 2 1)) get_x ≡ read_gave null (of_id 2 1 ∷ []) 1)
    × (seen three (string (codes "0")) get_x ≡ ended (codes "BadId") 1)
    × (seen three (string (codes "00000000000000000000000000000000000A000000010000")) get_x ≡ ended (codes "BadId") 1)
    × (seen three (string (codes "000100000000000000000000000000000001000000010000")) get_x ≡ ended (codes "BadId") 1)
    × (seen three (natural 2) get_x ≡ ended (codes "TypeError") 1)

-- count is the length of a scan in the order of creation
abbrev pub AreWorkedCounts : Type 0
AreWorkedCounts =
    (looks count_t ≡ read_gave (natural 3) (by_creation ∷ []) 4)
    × (seen [] null count_t ≡ read_gave (natural 0) (by_creation ∷ []) 1)
    × (seen (record (numbered 4 1) { id = record (id_of 4 0) { table = 1 } } ∷ three) null count_t ≡ read_gave (natural 3) (by_creation ∷ []) 4)

-- up and down, with a limit of none, fewer, as many and more than there are
abbrev pub AreWorkedScans : Type 0
AreWorkedScans =
    (looks (scan_n no_bounds false all_rows) ≡ read_gave (rows_of (of_one ∷ of_two ∷ of_three ∷ [])) (by_n (below []) (above []) ∷ []) 4)
    × (looks (scan_n no_bounds true all_rows) ≡ read_gave (rows_of (of_three ∷ of_two ∷ of_one ∷ [])) (by_n (below []) (above []) ∷ []) 4)
    × (looks (expr 0 (scan (named (codes "t")) (named (codes "by_creation_time")) no_bounds false all_rows))
    ≡ read_gave (rows_of (of_three ∷ of_two ∷ of_one ∷ [])) (by_creation ∷ []) 4)
    × (looks (first_rows 0) ≡ read_gave (rows_of []) (by_n (below []) (below []) ∷ []) 1)
    × (looks (first_rows 2) ≡ read_gave (rows_of (of_one ∷ of_two ∷ [])) (by_n (below []) (above (place_of 2 20)) ∷ []) 3)
    × (looks (first_rows 3) ≡ read_gave (rows_of (of_one ∷ of_two ∷ of_three ∷ [])) (by_n (below []) (above (place_of 3 10)) ∷ []) 4)
    × (looks (first_rows 4) ≡ read_gave (rows_of (of_one ∷ of_two ∷ of_three ∷ [])) (by_n (below []) (above []) ∷ []) 4)
    × (looks (last_rows 0) ≡ read_gave (rows_of []) (by_n (above []) (above []) ∷ []) 1)
    × (looks (last_rows 2) ≡ read_gave (rows_of (of_three ∷ of_two ∷ [])) (by_n (below (place_of 2 20)) (above []) ∷ []) 3)
    × (looks (last_rows 3) ≡ read_gave (rows_of (of_three ∷ of_two ∷ of_one ∷ [])) (by_n (below (place_of 1 30)) (above []) ∷ []) 4)
    × (looks (last_rows 4) ≡ read_gave (rows_of (of_three ∷ of_two ∷ of_one ∷ [])) (by_n (below []) (above []) ∷ []) 4)
    × (looks (scan_n no_bounds false (up_to (minus (number 1)))) ≡ ended (codes "OutOfRange") 1)
    × (looks (scan_n no_bounds false (up_to yes)) ≡ ended (codes "TypeError") 1)
    × (looks (scan_n (bound (named (codes "v")) Equal one_by_zero no_bounds) false (up_to yes)) ≡ ended (codes "DivisionByZero") 1)
    × (looks (rows_with (bound (named (codes "v")) Greater one_by_zero (bound (named (codes "v")) Less no_field no_bounds))) ≡ ended (codes "DivisionByZero") 1)
    × (looks (rows_with (bound (named (codes "v")) Less no_field (bound (named (codes "v")) Greater one_by_zero no_bounds))) ≡ ended (codes "NoField") 1)

abbrev on_id : CompareOp → List ℕ → Bounds
on_id op id = bound (named (codes "_id")) op (words id) no_bounds

-- the interval of bounds: behind the equal fields in their order, from and to; bounds may name all fields of the index
abbrev pub AreWorkedBounds : Type 0
AreWorkedBounds =
    let two : Value = natural 2 in
    (looks (rows_with (on_v Equal 2 no_bounds)) ≡ read_gave (rows_of (of_two ∷ [])) (by_n (below (Some two ∷ [])) (above (Some two ∷ [])) ∷ []) 2)
    × (looks (rows_with (on_v Greater 2 no_bounds)) ≡ read_gave (rows_of (of_three ∷ [])) (by_n (above (Some two ∷ [])) (above []) ∷ []) 2)
    × (looks (rows_with (on_v GreaterEqual 2 no_bounds)) ≡ read_gave (rows_of (of_two ∷ of_three ∷ [])) (by_n (below (Some two ∷ [])) (above []) ∷ []) 3)
    × (looks (rows_with (on_v Less 2 no_bounds)) ≡ read_gave (rows_of (of_one ∷ [])) (by_n (below []) (below (Some two ∷ [])) ∷ []) 2)
    × (looks (rows_with (on_v LessEqual 2 no_bounds)) ≡ read_gave (rows_of (of_one ∷ of_two ∷ [])) (by_n (below []) (above (Some two ∷ [])) ∷ []) 3)
    × (looks (rows_with (on_v Less 3 (on_v Greater 1 no_bounds)))
    ≡ read_gave (rows_of (of_two ∷ [])) (by_n (above (Some (natural 1) ∷ [])) (below (Some (natural 3) ∷ [])) ∷ []) 2)
    × (looks (rows_with (on_v Equal 2 (on_creation GreaterEqual 20 (on_creation Less 21 no_bounds))))
    ≡ read_gave (rows_of (of_two ∷ [])) (by_n (below (Some two ∷ Some (natural 20) ∷ [])) (below (Some two ∷ Some (natural 21) ∷ [])) ∷ []) 2)
    × (looks (rows_with (on_v Equal 2 (on_creation Greater 20 no_bounds)))
    ≡ read_gave (rows_of []) (by_n (above (Some two ∷ Some (natural 20) ∷ [])) (above (Some two ∷ [])) ∷ []) 1)
    × (looks (rows_with (on_v Equal 2 (on_creation LessEqual 20 no_bounds)))
    ≡ read_gave (rows_of (of_two ∷ [])) (by_n (below (Some two ∷ [])) (above (Some two ∷ Some (natural 20) ∷ [])) ∷ []) 2)
    × (looks (rows_with (on_v GreaterEqual 3 (on_v Less 2 no_bounds))) ≡ read_gave (rows_of []) (by_n (below (Some (natural 3) ∷ [])) (below (Some two ∷ [])) ∷ []) 1)
    × (looks (rows_with (on_v Equal 2 (on_creation Equal 20 no_bounds)))
    ≡ read_gave (rows_of (of_two ∷ [])) (by_n (below (Some two ∷ Some (natural 20) ∷ [])) (above (Some two ∷ Some (natural 20) ∷ [])) ∷ []) 2)
    × (looks (rows_with (on_v Equal 2 (on_creation Equal 20 (on_id Equal (text_of_id 2 0)))))
    ≡ read_gave (rows_of (of_two ∷ [])) (by_n (below (place_of 2 20)) (above (place_of 2 20)) ∷ []) 2)
    × (looks (rows_with (on_v Equal 2 (on_creation Equal 20 (on_id Less (text_of_id 2 0)))))
    ≡ read_gave (rows_of []) (by_n (below (Some two ∷ Some (natural 20) ∷ [])) (below (place_of 2 20)) ∷ []) 1)
    × (looks (scan_n (on_v GreaterEqual 2 no_bounds) false (up_to (number 1)))
    ≡ read_gave (rows_of (of_two ∷ [])) (by_n (below (Some two ∷ [])) (above (place_of 2 20)) ∷ []) 2)
    × (looks (scan_n (on_v LessEqual 2 no_bounds) true (up_to (number 1)))
    ≡ read_gave (rows_of (of_two ∷ [])) (by_n (below (place_of 2 20)) (above (Some two ∷ [])) ∷ []) 2)

-- a document with these fields, and what a read gives of it
abbrev holding : (request creation : ℕ) → List (List ℕ × Value) → Doc
holding request creation fields = record { id = id_of request 0; creation = pos creation; fields = fields }

abbrev held : (request creation : ℕ) → List (List ℕ × Value) → Value
held request creation fields = object (members_of ((codes "_creationTime", natural creation) ∷ (codes "_id", string (text_of_id request 0)) ∷ fields))

-- rows stand by their field, a missing one first, then by creation, then by id
abbrev pub AreWorkedRows : Type 0
AreWorkedRows =
    (seen (holding 1 1 ((codes "v", string (codes "a")) ∷ []) ∷ holding 2 3 [] ∷ holding 3 2 ((codes "v", null) ∷ []) ∷ []) null (scan_n no_bounds false all_rows)
    ≡ read_gave (rows_of (held 2 3 [] ∷ held 3 2 ((codes "v", null) ∷ []) ∷ held 1 1 ((codes "v", string (codes "a")) ∷ []) ∷ [])) (by_n (below []) (above []) ∷ []) 4)
    × (seen (holding 3 2 [] ∷ holding 1 2 [] ∷ holding 2 1 [] ∷ []) null (scan_n no_bounds false all_rows)
    ≡ read_gave (rows_of (held 2 1 [] ∷ held 1 2 [] ∷ held 3 2 [] ∷ [])) (by_n (below []) (above []) ∷ []) 4)

-- table t { index by_n(v); } table u { index by_w(w); index by_both(w, v); }
abbrev pub two_tables : List FunctionTree → ModuleTree
two_tables fs = record {
  tables = (example []).tables ++ record {
    name = named (codes "u");
    indexes = record { name = named (codes "by_w"); fields = named (codes "w") ∷ [] }
        ∷ record { name = named (codes "by_both"); fields = named (codes "w") ∷ named (codes "v") ∷ [] } ∷ [];
  } ∷ [];
  functions = fs;
}

-- tables, indexes and fields in the order of the module: the two indexes of each table, then the declared ones, each with the creation and the id behind its fields
abbrev pub AreWorkedSchemas : Type 0
AreWorkedSchemas =
    schema_of (two_tables []).tables ≡ record {
      tables =
          record {
            name = codes "t";
            indexes =
                record { name = codes "by_id"; fields = codes "_id" ∷ [] }
                ∷ record { name = codes "by_creation_time"; fields = codes "_creationTime" ∷ codes "_id" ∷ [] }
                ∷ record { name = codes "by_n"; fields = codes "v" ∷ codes "_creationTime" ∷ codes "_id" ∷ [] } ∷ [];
          }
          ∷ record {
            name = codes "u";
            indexes =
                record { name = codes "by_id"; fields = codes "_id" ∷ [] }
                ∷ record { name = codes "by_creation_time"; fields = codes "_creationTime" ∷ codes "_id" ∷ [] }
                ∷ record { name = codes "by_w"; fields = codes "w" ∷ codes "_creationTime" ∷ codes "_id" ∷ [] }
                ∷ record { name = codes "by_both"; fields = codes "w" ∷ codes "v" ∷ codes "_creationTime" ∷ codes "_id" ∷ [] } ∷ [];
          } ∷ [];
    }

-- ids are the same in table, session, request and ordinal
abbrev pub AreWorkedIds : Type 0
AreWorkedIds =
    (same_id (id_of 2 3) (id_of 2 3) ≡ true)
    × (same_id (id_of 2 3) (record (id_of 2 3) { table = 1 }) ≡ false)
    × (same_id (id_of 2 3) (record (id_of 2 3) { session = 2 }) ≡ false)
    × (same_id (id_of 2 3) (id_of 1 3) ≡ false)
    × (same_id (id_of 2 3) (id_of 2 0) ≡ false)

-- the id of a document of the second table, and its text
abbrev pub id_in_u : (request : ℕ) → DocId
id_in_u request = record (id_of request 0) { table = 1 }

abbrev pub text_in_u : (request : ℕ) → List ℕ
text_in_u request = codes "0001000000000000000000000000000000010000000" ++ (48 + request) ∷ codes "0000"

-- a document of it with the fields v and w, and what a read gives of it
abbrev doc_of_u : (request v w : ℕ) → Doc
doc_of_u request v w = record { id = id_in_u request; creation = pos 40; fields = (codes "v", natural v) ∷ (codes "w", natural w) ∷ [] }

abbrev object_of_u : (request v w : ℕ) → Value
object_of_u request v w = object (members_of (
    (codes "_creationTime", natural 40) ∷ (codes "_id", string (text_in_u request)) ∷ (codes "v", natural v) ∷ (codes "w", natural w) ∷ []))

-- a query of the second table, where the three documents of the first are there too, two of the same requests
abbrev in_u : Value → Expr → Run
in_u v e = run (two_tables (query_does (give_back e ∷ []) ∷ [])) (asks (codes "q") (with_x v)) (doc_of_u 2 1 6 ∷ doc_of_u 3 2 5 ∷ three)

abbrev of_u : (index : List ℕ) → Bounds → Expr
of_u index bounds = expr 0 (scan (named (codes "u")) (named index) bounds false all_rows)

-- the interval of a scan has the numbers of its table and of its index
abbrev pub AreWorkedTables : Type 0
AreWorkedTables =
    let all_of : (index : ℕ) → PlaceInterval = λ index. record (in_index index (below []) (above [])) { table = 1 } in
    (in_u null (expr 0 (count (named (codes "u")))) ≡ read_gave (natural 2) (all_of 1 ∷ []) 3)
    × (in_u null (of_u (codes "by_w") no_bounds) ≡ read_gave (rows_of (object_of_u 3 2 5 ∷ object_of_u 2 1 6 ∷ [])) (all_of 2 ∷ []) 3)
    × (in_u null (of_u (codes "by_both") (bound (named (codes "w")) Equal (number 6) (on_v Equal 1 no_bounds)))
    ≡ read_gave (rows_of (object_of_u 2 1 6 ∷ [])) (record (in_index 3 (below (Some (natural 6) ∷ Some (natural 1) ∷ [])) (above (Some (natural 6) ∷ Some (natural 1) ∷ []))) { table = 1 } ∷ []) 2)
    × (in_u (string (text_in_u 3)) get_x
    ≡ read_gave (object_of_u 3 2 5) (record (in_index 0 (below (Some (string (text_in_u 3)) ∷ [])) (above (Some (string (text_in_u 3)) ∷ []))) { table = 1 } ∷ []) 2)
    × (in_u (string (text_of_id 3 0)) get_x ≡ read_gave of_three (of_id 3 0 ∷ []) 2)
    × (in_u null count_t ≡ read_gave (natural 3) (by_creation ∷ []) 4)

-- what is asked: a limit above 32 bits is none, and what is left falls by what was read
abbrev question : Expr → List (List Doc) → List Stop
question e answers = stops (course_of (example (query_does (evaluate count_t ∷ give_back e ∷ []) ∷ [])) (asks (codes "q") (with_x (string (text_of_id 2 0))))) answers

abbrev pub AreWorkedQuestions : Type 0
AreWorkedQuestions =
    let first = asked (scan_rows by_creation false None (record { cost = 99999; rows = 16384; size = 8388608 })) in
    (question (first_rows 4294967295) ([] ∷ [])
    ≡ first ∷ asked (scan_rows (by_n (below []) (above [])) false (Some 4294967295) (record { cost = 99998; rows = 16384; size = 8388608 })) ∷ [])
    × (question (last_rows 4294967296) (three ∷ [])
    ≡ first ∷ asked (scan_rows (by_n (below []) (above [])) true None (record { cost = 99995; rows = 16381; size = 8388569 })) ∷ [])
    × (question get_x (three ∷ []) ≡ first ∷ asked (get_doc (id_of 2 0) (record { cost = 99995; rows = 16381; size = 8388569 })) ∷ [])

abbrev pub IsWorkedReads : Type 0
IsWorkedReads = AreWorkedGets × AreWorkedCounts × AreWorkedScans × AreWorkedBounds × AreWorkedRows × AreWorkedSchemas × AreWorkedIds × AreWorkedTables × AreWorkedQuestions × AreWorkedQuotas × AreWorkedReadRows × AreWorkedRanges × AreWorkedWideRows
