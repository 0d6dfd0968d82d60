-- The index of a number, and the place of a document in it.
use Rattle.std.specs.Prelude.{ℕ, List, [], map, Option, Some, None, slice_get, codes, nat_eq, if◌then◌else◌}
use Rattle.std.specs.BTreeMap.{is_at}
use Rattle.std.specs.Cmp.Lexicographic.{slice_cmp, pointwise}
use Rattle.std.specs.Map.{lookup}
use Rattle.std.specs.Ordering.{nat_cmp}
use Rattle.cv_values.specs.Ids.{id_text}
use Rattle.cv_values.specs.Value.{int, string}
use Rattle.cv_values.specs.declared.doc.Doc.{Doc}
use Rattle.cv_keys.specs.Places.{Item, Place}
use Rattle.cv_keys.specs.declared.schema.Index.{Index}
use Rattle.cv_keys.specs.declared.schema.Schema.{Schema}
use Rattle.cv_keys.specs.declared.schema.Table.{Table}

abbrev pub indexes_in : Option Table → List Index
indexes_in None = []
indexes_in (Some t) = t.indexes

-- the indexes of a table, none where it isn't there
abbrev pub indexes_of : Schema → ℕ → List Index
indexes_of schema table = indexes_in (slice_get schema.tables table)

abbrev pub index_at : Schema → ℕ → ℕ → Option Index
index_at schema table index = slice_get (indexes_of schema table) index

-- what a document has at a field of an index: its id, its time of creation, or what its fields have there
abbrev pub item_at : Doc → List ℕ → Item
item_at d field =
    if pointwise nat_eq field (codes "_id") then Some (string (id_text d.id))
    else (if pointwise nat_eq field (codes "_creationTime") then Some (int d.creation)
    else lookup (is_at (slice_cmp nat_cmp field)) d.fields)

-- the place of a document in an index
abbrev pub place : Doc → Index → Place
place d index = map (item_at d) index.fields
