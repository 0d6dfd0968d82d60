-- The documents of the worked examples, and what reads tell of them.
use Rattle.std.specs.Prelude.{ℕ, ◌+◌, pos, Bool, true, false, List, [], ◌∷◌, ◌++◌, Some, codes}
use Rattle.cv_values.specs.Value.{Value, int, string, array, object, values_of, members_of}
use Rattle.cv_values.specs.declared.doc.Doc.{Doc}
use Rattle.cv_values.specs.declared.ids.DocId.{DocId}
use Rattle.cv_keys.specs.Places.{Place, End, below, above, PlaceInterval}
use Rattle.fn_tree.specs.Course.{gives, failed}
use Rattle.fn_tree.specs.Documents.{Docs}
use Rattle.fn_tree.specs.ExampleModules.{named, number, x}
use Rattle.fn_tree.specs.Run.{Run}
use Rattle.fn_tree.specs.SyntaxTree.{Expr, expr, scan, count, get, Bounds, no_bounds, Limit, up_to}

-- an id of session 1, and its text for numbers of one digit
abbrev pub id_of : (request ordinal : ℕ) → DocId
id_of request ordinal = record { table = 0; session = 1; request = request; ordinal = ordinal }

abbrev pub text_of_id : (request ordinal : ℕ) → List ℕ
text_of_id request ordinal = codes "0000000000000000000000000000000000010000000" ++ (48 + request) ∷ codes "000" ++ (48 + ordinal) ∷ []

-- the document {v: number} of the request of this number
abbrev pub numbered : (v creation : ℕ) → Doc
numbered v creation = record { id = id_of v 0; creation = pos creation; fields = (codes "v", int (pos v)) ∷ [] }

-- three documents, of which the one with the least number is the newest
abbrev pub three : Docs
three = numbered 2 20 ∷ numbered 3 10 ∷ numbered 1 30 ∷ []

-- what a read gives of such a document
abbrev pub object_of : (v creation : ℕ) → Value
object_of v creation = object (members_of (
    (codes "_creationTime", int (pos creation)) ∷ (codes "_id", string (text_of_id v 0)) ∷ (codes "v", int (pos v)) ∷ []))

-- the objects of the documents of 1 (made at 30), 2 (at 20) and 3 (at 10)
abbrev pub of_one : Value
of_one = object_of 1 30

abbrev pub of_two : Value
of_two = object_of 2 20

abbrev pub of_three : Value
of_three = object_of 3 10

abbrev pub rows_of : List Value → Value
rows_of vs = array (values_of vs)

-- its place in by_n
abbrev pub place_of : (v creation : ℕ) → Place
place_of v creation = Some (int (pos v)) ∷ Some (int (pos creation)) ∷ Some (string (text_of_id v 0)) ∷ []

-- ---- intervals

abbrev pub in_index : (index : ℕ) → (lo hi : End) → PlaceInterval
in_index index lo hi = record { table = 0; index = index; lo = lo; hi = hi }

abbrev pub by_n : (lo hi : End) → PlaceInterval
by_n lo hi = in_index 2 lo hi

-- all rows in the order of creation
abbrev pub by_creation : PlaceInterval
by_creation = in_index 1 (below []) (above [])

-- the interval of an id
abbrev pub of_id : (request ordinal : ℕ) → PlaceInterval
of_id request ordinal =
    let q : Place = Some (string (text_of_id request ordinal)) ∷ [] in
    in_index 0 (below q) (above q)

-- ---- runs that write nothing

abbrev pub read_gave : Value → List PlaceInterval → (cost : ℕ) → Run
read_gave v reads cost = record { reply = gives v; writes = []; reads = reads; cost = cost }

abbrev pub read_ended : (why : List ℕ) → List PlaceInterval → (cost : ℕ) → Run
read_ended why reads cost = record { reply = failed why; writes = []; reads = reads; cost = cost }

-- ---- reads

-- count("t") and get(x)
abbrev pub count_t : Expr
count_t = expr 0 (count (named (codes "t")))

abbrev pub get_x : Expr
get_x = expr 0 (get x)

-- scan("t", "by_n", ..)
abbrev pub scan_n : Bounds → Bool → Limit → Expr
scan_n bounds desc most = expr 0 (scan (named (codes "t")) (named (codes "by_n")) bounds desc most)

abbrev pub first_rows : ℕ → Expr
first_rows n = scan_n no_bounds false (up_to (number n))

abbrev pub last_rows : ℕ → Expr
last_rows n = scan_n no_bounds true (up_to (number n))
