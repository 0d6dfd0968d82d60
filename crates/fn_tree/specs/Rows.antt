-- The rows of an index: a table's documents in the index's order.
use Rattle.std.specs.Prelude.{ℕ, Bool, ◌&&◌, ◌==◌, cond, List, [], ◌∷◌, Option, Some, None}
use Rattle.std.specs.Ordering.{is_gt}
use Rattle.std.specs.declared.cmp.Ordering.{Ordering}
use Rattle.cv_values.specs.declared.doc.Doc.{Doc}
use Rattle.cv_keys.specs.Documents.{index_at, place}
use Rattle.cv_keys.specs.Places.{place_cmp, PlaceInterval, lies_in}
use Rattle.cv_keys.specs.declared.schema.Index.{Index}
use Rattle.cv_keys.specs.declared.schema.Schema.{Schema}
use Rattle.fn_tree.specs.Documents.{Docs}

-- x put among ys, before the first that it isn't above
abbrev pub placed_in : {A : Type 0} → (A → A → Ordering) → A → List A → List A
placed_in order x [] = x ∷ []
placed_in order x (y ∷ ys) = cond (is_gt (order x y)) (y ∷ placed_in order x ys) (x ∷ y ∷ ys)

-- documents are ordered by their places in the index
abbrev pub row_cmp : Index → Doc → Doc → Ordering
row_cmp index d e = place_cmp (place d index) (place e index)

-- the documents that pass a test, put one by one into the index's order
abbrev pub rows_by : Index → (Doc → Bool) → Docs → List Doc
rows_by index test [] = []
rows_by index test (d ∷ ds) = cond (test d) (placed_in (row_cmp index) d (rows_by index test ds)) (rows_by index test ds)

-- the rows of a table in an index
abbrev pub rows : (table : ℕ) → Index → Docs → List Doc
rows table index ds = rows_by index (λ d. d.id.table == table) ds

-- whether a document is one of the interval's table and has its place in it
abbrev pub is_within : Index → PlaceInterval → Doc → Bool
is_within index i d = (d.id.table == i.table) && lies_in (place d index) i

-- the rows of an interval, of an index that is there
abbrev pub rows_in : Option Index → PlaceInterval → Docs → List Doc
rows_in None i ds = []
rows_in (Some index) i ds = rows_by index (is_within index i) ds

-- the rows of an interval, in the index that it names
abbrev pub rows_at : Schema → PlaceInterval → Docs → List Doc
rows_at schema i ds = rows_in (index_at schema i.table i.index) i ds
