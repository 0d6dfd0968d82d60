-- What reads do: `get`, `scan` and `count`.
use Rattle.std.specs.Prelude.{ℕ, ◌+◌, ◌-◌, pos, negsuc, Bool, true, false, nat_lt, nat_le, if◌then◌else◌, List, [], ◌∷◌, ◌++◌, map, length, Option, Some, None, option_and_then, slice_get, codes}
use Rattle.cv_values.specs.Docs.{doc_value}
use Rattle.cv_values.specs.Ids.{read_id}
use Rattle.cv_values.specs.Value.{Value, null, int, array, values_of}
use Rattle.cv_values.specs.declared.doc.Doc.{Doc}
use Rattle.cv_values.specs.declared.ids.DocId.{DocId}
use Rattle.cv_keys.specs.Places.{Place, End, below, above, PlaceInterval}
use Rattle.cv_keys.specs.declared.schema.Index.{Index}
use Rattle.cv_keys.specs.declared.schema.Schema.{Schema}
use Rattle.cv_keys.specs.declared.schema.Table.{Table}
use Rattle.fn_ops.specs.Operations.{made}
use Rattle.fn_tree.specs.Actions.{Counts, Action, ◌>>=◌, give, fail, type_error, or_fail, or_type_error, Site, given, as_text, quota_text}
use Rattle.fn_tree.specs.Course.{Ask, get_doc, scan_rows, ask}
use Rattle.fn_tree.specs.Names.{table_number, index_number}
use Rattle.fn_tree.specs.Scan.{passed, rows_size}
use Rattle.fn_tree.specs.declared.syntax.CompareOp.{CompareOp}
use Rattle.fn_tree.specs.declared.syntax.CompareOp.TheVariants.{Equal, Less, LessEqual, Greater, GreaterEqual}
use Rattle.fn_tree.specs.declared.stop.Left.{Left}

-- ---- one read

abbrev pub left_of : Site → Counts → Left
left_of site c = record { cost = site.limits.cost - c.cost; rows = site.limits.rows - c.rows; size = site.limits.size - c.size }

-- the rows of a read are counted; a quota that they pass is the error
abbrev pub counted : Left → List Doc → Action (List Doc)
counted left ds = λ c next.
    let d : Counts = record c { cost = c.cost + length ds; rows = c.rows + length ds; size = c.size + rows_size ds } in
    elim (passed left (length ds) (rows_size ds)) [ None ↦ next ds d | Some quota ↦ fail {A = List Doc} (quota_text quota) d next ]

-- one read, recorded as one range
abbrev pub read : Site → (Left → Ask) → Action (List Doc)
read site question = λ c next.
    let left = left_of site c in
    let d : Counts = record c { ranges = c.ranges + 1 } in
    elim (nat_lt c.ranges site.limits.ranges) [
      | true ↦ ask (question left) (λ ds. counted left ds d next)
      | false ↦ fail {A = List Doc} (codes "RangeLimit") c next
    ]

-- ---- by an id

-- an id whose table is in the module
abbrev pub id_in : Schema → Option DocId → Option DocId
id_in schema None = None
id_in schema (Some id) = if nat_lt id.table (length schema.tables) then Some id else None

abbrev pub as_id : Site → Value → Action DocId
as_id site v = do
  s ← as_text v
  or_fail (codes "BadId") (id_in site.schema (read_id s))

abbrev pub first_of : List Doc → Option Doc
first_of [] = None
first_of (d ∷ ds) = Some d

-- the document of an id, if there is one
abbrev pub doc_at : Site → DocId → Action (Option Doc)
doc_at site id = do
  ds ← read site (get_doc id)
  give (first_of ds)

abbrev pub doc_or_null : Option Doc → Value
doc_or_null None = null
doc_or_null (Some d) = doc_value d

abbrev pub get_value : Site → Value → Action Value
get_value site v = do
  id ← as_id site v
  d ← doc_at site id
  given (made (doc_or_null d))

-- ---- of an interval

-- how many rows to take, where it isn't above the greatest number of 32 bits
abbrev pub limit_of : Value → Action (Option ℕ)
limit_of (int (pos n)) = give (if nat_le n 4294967295 then Some n else None)
limit_of (int (negsuc n)) = fail (codes "OutOfRange")
limit_of v = type_error

-- the values that the first fields are equal to
abbrev pub equals_of : List (CompareOp × Value) → Place
equals_of [] = []
equals_of ((Equal, v) ∷ bs) = Some v ∷ equals_of bs
equals_of ((op, v) ∷ bs) = equals_of bs

-- the end under the places that begin with p
abbrev pub lower_of : Place → List (CompareOp × Value) → End
lower_of p [] = below p
lower_of p ((Greater, v) ∷ bs) = above (p ++ Some v ∷ [])
lower_of p ((GreaterEqual, v) ∷ bs) = below (p ++ Some v ∷ [])
lower_of p ((op, v) ∷ bs) = lower_of p bs

-- the end over them
abbrev pub upper_of : Place → List (CompareOp × Value) → End
upper_of p [] = above p
upper_of p ((Less, v) ∷ bs) = below (p ++ Some v ∷ [])
upper_of p ((LessEqual, v) ∷ bs) = above (p ++ Some v ∷ [])
upper_of p ((op, v) ∷ bs) = upper_of p bs

-- the interval that the bounds leave of an index
abbrev pub bounded : (table index : ℕ) → List (CompareOp × Value) → PlaceInterval
bounded table index bounds =
    let p = equals_of bounds in
    record { table = table; index = index; lo = lower_of p bounds; hi = upper_of p bounds }

-- whether one of the bounds is no equality
abbrev pub has_bound : List (CompareOp × Value) → Bool
has_bound [] = false
has_bound ((Equal, v) ∷ bs) = has_bound bs
has_bound ((op, v) ∷ bs) = true

-- an index has a field for each equality, and one more for the other bounds
abbrev pub has_fields : Index → List (CompareOp × Value) → Bool
has_fields index bounds = nat_le (length (equals_of bounds) + (if has_bound bounds then 1 else 0)) (length index.fields)

-- the interval of a scan, where the schema has the table and the index, with as many fields
abbrev pub interval_of : Schema → (table index : List ℕ) → List (CompareOp × Value) → Option PlaceInterval
interval_of schema table index bounds = option_and_then (λ t.
    option_and_then (λ (found : Table). option_and_then (λ i.
    option_and_then (λ (order : Index). if has_fields order bounds then Some (bounded t i bounds) else None)
    (slice_get found.indexes i)) (index_number found index))
    (slice_get schema.tables t)) (table_number schema table)

abbrev pub scan_value : Site → (table index : List ℕ) → List (CompareOp × Value) → (desc : Bool) → Option ℕ → Action Value
scan_value site table index bounds desc limit = do
  i ← or_type_error (interval_of site.schema table index bounds)
  ds ← read site (scan_rows i desc limit)
  given (made (array (values_of (map doc_value ds))))
