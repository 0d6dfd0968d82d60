-- Rows in a direction, with writes laid over them.
use Rattle.std.specs.Prelude.{ℕ, Bool, true, false, not, ◌==◌, cond, List, [], ◌∷◌, Option, Some, None}
use Rattle.std.specs.Ordering.{is_gt}
use Rattle.cv_values.specs.Order.{text_cmp}
use Rattle.cv_values.specs.declared.doc.Doc.{Doc}
use Rattle.cv_keys.specs.Places.{PlaceInterval}
use Rattle.cv_keys.specs.declared.schema.Index.{Index}
use Rattle.cv_keys.specs.declared.write.Write.{Write}
use Rattle.fn_tree.specs.Documents.{without_id}
use Rattle.fn_tree.specs.Rows.{row_cmp, is_within}

-- x goes behind y: its place is above y's, or upside down it isn't
abbrev pub goes_behind : Index → (desc : Bool) → Doc → Doc → Bool
goes_behind index false x y = is_gt (row_cmp index x y)
goes_behind index true x y = not (is_gt (row_cmp index x y))

-- the same by keys
abbrev pub key_behind : (desc : Bool) → List ℕ → List ℕ → Bool
key_behind false k l = is_gt (text_cmp k l)
key_behind true k l = not (is_gt (text_cmp k l))

-- x put among ys, before the first that it doesn't go behind
abbrev pub put_among : (Doc → Doc → Bool) → Doc → List Doc → List Doc
put_among behind x [] = x ∷ []
put_among behind x (y ∷ ys) = cond (behind x y) (y ∷ put_among behind x ys) (x ∷ y ∷ ys)

abbrev pub with_row : Index → PlaceInterval → (desc : Bool) → Option Doc → List Doc → List Doc
with_row index i desc None rows = rows
with_row index i desc (Some d) rows = cond (is_within index i d) (put_among (goes_behind index desc) d rows) rows

-- the rows after a write: without the document of its id, and with its new one where that lies in the interval
abbrev pub with_write : Index → PlaceInterval → (desc : Bool) → Write → List Doc → List Doc
with_write index i desc w rows = cond (w.id.table == i.table) (with_row index i desc w.new (without_id w.id rows)) rows

abbrev pub with_writes : Index → PlaceInterval → (desc : Bool) → List Write → List Doc → List Doc
with_writes index i desc [] rows = rows
with_writes index i desc (w ∷ ws) rows = with_writes index i desc ws (with_write index i desc w rows)
