-- Which writes touch an interval.
use Rattle.std.specs.Prelude.{◌≡◌, Bool, false, ◌&&◌, ◌||◌, ◌==◌, Option, Some, None}
use Rattle.cv_values.specs.declared.doc.Doc.{Doc}
use Rattle.cv_keys.specs.Documents.{index_at, place}
use Rattle.cv_keys.specs.Intervals.{in_bytes}
use Rattle.cv_keys.specs.KeyBytes.{place_key, is_between}
use Rattle.cv_keys.specs.KeyOrder.{PlaceInRange, EndInRange}
use Rattle.cv_keys.specs.Places.{PlaceInterval, lies_in}
use Rattle.cv_keys.specs.declared.interval.Interval.{Interval}
use Rattle.cv_keys.specs.declared.schema.Index.{Index}
use Rattle.cv_keys.specs.declared.schema.Schema.{Schema}
use Rattle.cv_keys.specs.declared.write.Write.{Write}

-- the document, if any, has its place in the interval
abbrev pub is_in : Option Index → PlaceInterval → Option Doc → Bool
is_in None i d = false
is_in (Some index) i None = false
is_in (Some index) i (Some d) = lies_in (place d index) i

-- the write is one of the table, and its old or its new document lies in the interval
abbrev pub touches_places : Schema → Write → PlaceInterval → Bool
touches_places schema w i =
    let index = index_at schema i.table i.index in
    (w.id.table == i.table) && (is_in index i w.old || is_in index i w.new)

-- the same by the keys
abbrev pub has_key_in : Option Index → Interval → Option Doc → Bool
has_key_in None i d = false
has_key_in (Some index) i None = false
has_key_in (Some index) i (Some d) = is_between (place_key (place d index)) i.lo i.hi

abbrev pub touches : Schema → Write → Interval → Bool
touches schema w i =
    let index = index_at schema i.table i.index in
    (w.id.table == i.table) && (has_key_in index i w.old || has_key_in index i w.new)

-- the integers of a document's place fit 64 bits
abbrev pub DocInRange : Option Index → Option Doc → Type 0
DocInRange None d = Unit {0}
DocInRange (Some index) None = Unit {0}
DocInRange (Some index) (Some d) = PlaceInRange (place d index)

-- a write touches the bytes of an interval exactly where it touches the interval
abbrev pub TouchGoesByKeys : Type 0
TouchGoesByKeys = (schema : Schema) (w : Write) (i : PlaceInterval)
    → DocInRange (index_at schema i.table i.index) w.old → DocInRange (index_at schema i.table i.index) w.new → EndInRange i.lo → EndInRange i.hi
    → touches schema w (in_bytes i) ≡ touches_places schema w i
