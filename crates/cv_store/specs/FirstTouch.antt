-- The first touch of a history after a timestamp.
use Rattle.std.specs.Prelude.{ℕ, ◌+◌, Bool, true, false, ◌&&◌, ◌==◌, List, [], ◌∷◌, drop, Option, Some, None}
use Rattle.std.specs.List.{position_from}
use Rattle.std.specs.Option.{option_or}
use Rattle.cv_values.specs.declared.doc.Doc.{Doc}
use Rattle.cv_keys.specs.Documents.{indexes_of, place}
use Rattle.cv_keys.specs.Intervals.{contains}
use Rattle.cv_keys.specs.KeyBytes.{place_key}
use Rattle.cv_keys.specs.Places.{PlaceInterval, lies_in}
use Rattle.cv_keys.specs.declared.interval.Interval.{Interval}
use Rattle.cv_keys.specs.declared.schema.Index.{Index}
use Rattle.cv_keys.specs.declared.schema.Schema.{Schema}
use Rattle.cv_keys.specs.declared.write.Write.{Write}
use Rattle.fn_tree.specs.History.{Entry, History}
use Rattle.cv_store.specs.declared.conflict.Conflict.{Conflict}

-- whether a document of a table lies in a range, by its place in the index of a number
abbrev pub Test : Type 0 → Type 0
Test R = (table index : ℕ) → Index → Doc → R → Bool

-- by the bytes of its key
abbrev pub by_key : Test Interval
by_key table index x d i = contains i table index (place_key (place d x))

-- by its place
abbrev pub by_place : Test PlaceInterval
by_place table index x d i = (i.table == table) && (i.index == index) && lies_in (place d x) i

-- in the indexes, numbered from k on, and for each in the ranges in order
abbrev pub index_touch : {R : Type 0} → Test R → List R → (ts write : ℕ) → (fresh : Bool) → (table : ℕ) → Doc → (k : ℕ) → List Index → Option Conflict
index_touch test reads ts write fresh table d k [] = None
index_touch test reads ts write fresh table d k (x ∷ xs) = elim (position_from (test table k x d) 0 reads) [
  | Some range ↦ Some (record { ts = ts; write = write; fresh = fresh; table = table; index = k; range = range })
  | None ↦ index_touch test reads ts write fresh table d (k + 1) xs
]

abbrev pub doc_touch : {R : Type 0} → Schema → Test R → List R → (ts write : ℕ) → (fresh : Bool) → (table : ℕ) → Option Doc → Option Conflict
doc_touch schema test reads ts write fresh table None = None
doc_touch schema test reads ts write fresh table (Some d) = index_touch test reads ts write fresh table d 0 (indexes_of schema table)

-- the old document before the new one
abbrev pub write_touch : {R : Type 0} → Schema → Test R → List R → (ts write : ℕ) → Write → Option Conflict
write_touch schema test reads ts write w =
    option_or (doc_touch schema test reads ts write false w.id.table w.old) (doc_touch schema test reads ts write true w.id.table w.new)

-- in the writes, numbered from n on
abbrev pub writes_touch : {R : Type 0} → Schema → Test R → List R → (ts n : ℕ) → List Write → Option Conflict
writes_touch schema test reads ts n [] = None
writes_touch schema test reads ts n (w ∷ ws) = option_or (write_touch schema test reads ts n w) (writes_touch schema test reads ts (n + 1) ws)

-- in the entries after a timestamp
abbrev pub entries_touch : {R : Type 0} → Schema → Test R → List R → (ts : ℕ) → List Entry → Option Conflict
entries_touch schema test reads ts [] = None
entries_touch schema test reads ts (e ∷ h) = option_or (writes_touch schema test reads (ts + 1) 0 e.writes) (entries_touch schema test reads (ts + 1) h)

abbrev pub first_touch_by : {R : Type 0} → Test R → Schema → List R → History → (s : ℕ) → Option Conflict
first_touch_by test schema reads h s = entries_touch schema test reads s (drop s h)

-- that of an entry at a timestamp
abbrev pub entry_touch : {R : Type 0} → Schema → Test R → List R → (ts : ℕ) → Entry → Option Conflict
entry_touch schema test reads ts e = writes_touch schema test reads ts 0 e.writes

-- the first entry after s, in it the first write, of it the old document before the new one, of that the first index, and then the first range in which the document's key lies
unfoldable pub first_touch : Schema → List Interval → History → (s : ℕ) → Option Conflict
first_touch schema reads h s = first_touch_by by_key schema reads h s

-- the same by places
unfoldable pub first_touch_places : Schema → List PlaceInterval → History → (s : ℕ) → Option Conflict
first_touch_places schema reads h s = first_touch_by by_place schema reads h s
