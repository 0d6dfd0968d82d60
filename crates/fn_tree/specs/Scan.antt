-- One read: the rows that are consumed, and the interval that they tell of.
use Rattle.std.specs.Prelude.{ℕ, suc, ◌+◌, Bool, true, false, ◌||◌, nat_le, nat_lt, if◌then◌else◌, List, [], ◌∷◌, length, reverse, Option, Some, None, is_some}
use Rattle.cv_values.specs.Ids.{id_text}
use Rattle.cv_values.specs.Sizes.{size_of}
use Rattle.cv_values.specs.Value.{string, object, members_of}
use Rattle.cv_values.specs.declared.doc.Doc.{Doc}
use Rattle.cv_values.specs.declared.ids.DocId.{DocId}
use Rattle.cv_keys.specs.Documents.{index_at, place}
use Rattle.cv_keys.specs.Places.{Place, End, below, above, PlaceInterval}
use Rattle.cv_keys.specs.declared.schema.Index.{Index}
use Rattle.cv_keys.specs.declared.schema.Schema.{Schema}
use Rattle.fn_tree.specs.Course.{Ask, get_doc, scan_rows}
use Rattle.fn_tree.specs.Documents.{Docs, doc_of}
use Rattle.fn_tree.specs.Rows.{rows_at}
use Rattle.fn_tree.specs.declared.stop.Left.{Left}

-- the quotas of a read, in the order in which they are looked at: the run's cost, its rows, the size that it read, and the rows of this read
pub data Quota : Type 0 where
  of_cost of_rows of_size of_read : Quota

-- the most rows of one read
abbrev pub read_rows : ℕ
read_rows = 8192

-- the size of a document: that of the object of its fields
abbrev pub doc_size : Doc → ℕ
doc_size d = size_of (object (members_of d.fields))

abbrev pub rows_size : List Doc → ℕ
rows_size [] = 0
rows_size (d ∷ ds) = doc_size d + rows_size ds

-- the first quota that n rows of this size together pass, if any
abbrev pub passed : Left → (n size : ℕ) → Option Quota
passed left n size =
    if nat_lt left.cost n then Some of_cost
    else (if nat_lt left.rows n then Some of_rows
    else (if nat_lt left.size size then Some of_size
    else (if nat_lt read_rows n then Some of_read else None)))

abbrev pub is_reached : Option ℕ → ℕ → Bool
is_reached None n = false
is_reached (Some limit) n = nat_le limit n

-- nothing more is consumed after n rows of this size together
abbrev pub is_cut : Option ℕ → Left → (n size : ℕ) → Bool
is_cut limit left n size = is_reached limit n || is_some (passed left n size)

-- of the rows to come, those that are consumed after n of this size
abbrev pub consumed_after : Option ℕ → Left → (n size : ℕ) → List Doc → List Doc
consumed_after limit left n size [] = []
consumed_after limit left n size (d ∷ ds) =
    elim (is_cut limit left n size) [ true ↦ [] | false ↦ d ∷ consumed_after limit left (suc n) (size + doc_size d) ds ]

abbrev pub last_of : Doc → List Doc → Doc
last_of d [] = d
last_of d (e ∷ ds) = last_of e ds

abbrev pub place_at : Option Index → Doc → Place
place_at None d = []
place_at (Some index) d = place d index

-- the lower end of what is consumed: of a cut read downwards, right before the last row
abbrev pub cut_lo : Option Index → PlaceInterval → (desc cut : Bool) → List Doc → End
cut_lo index i true true [] = i.hi
cut_lo index i true true (d ∷ ds) = below (place_at index (last_of d ds))
cut_lo index i desc cut ds = i.lo

-- the upper end: of a cut read upwards, right behind the last row
abbrev pub cut_hi : Option Index → PlaceInterval → (desc cut : Bool) → List Doc → End
cut_hi index i false true [] = i.lo
cut_hi index i false true (d ∷ ds) = above (place_at index (last_of d ds))
cut_hi index i desc cut ds = i.hi

-- the interval that the rows consumed tell of: where nothing stopped the read, the whole of it, and else what goes from its start up to and including the last row
abbrev pub consumed_interval : Option Index → PlaceInterval → (desc : Bool) → Option ℕ → Left → List Doc → PlaceInterval
consumed_interval index i desc limit left ds =
    let cut = is_cut limit left (length ds) (rows_size ds) in
    record i { lo = cut_lo index i desc cut ds; hi = cut_hi index i desc cut ds }

-- all that begins with the id's text in `by_id`
abbrev pub id_interval : DocId → PlaceInterval
id_interval id =
    let q = Some (string (id_text id)) ∷ [] in
    record { table = id.table; index = 0; lo = below q; hi = above q }

-- the rows that a read consumes, and the interval that it is recorded with
pub record Answer : Type 0 where
  pub docs : List Doc
  pub consumed : PlaceInterval

abbrev pub in_direction : (desc : Bool) → List Doc → List Doc
in_direction false ds = ds
in_direction true ds = reverse ds

abbrev pub found : Option Doc → List Doc
found None = []
found (Some d) = d ∷ []

-- what a scan consumes of these rows
abbrev pub scan_answer : Option Index → List Doc → PlaceInterval → (desc : Bool) → Option ℕ → Left → Answer
scan_answer index rows i desc limit left =
    let ds = consumed_after limit left 0 0 (in_direction desc rows) in
    record { docs = ds; consumed = consumed_interval index i desc limit left ds }

-- the answer to an ask from these documents; that of an id is the document of the rows of its interval
abbrev pub answer : Schema → Docs → Ask → Answer
answer schema ds (get_doc id left) = record { docs = found (doc_of id (rows_at schema (id_interval id) ds)); consumed = id_interval id }
answer schema ds (scan_rows i desc limit left) =
    scan_answer (index_at schema i.table i.index) (rows_at schema i ds) i desc limit left
