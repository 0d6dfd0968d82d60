-- What writes change in the rows of indexes.
use Rattle.std.specs.Prelude.{ℕ, ◌+◌, Bool, false, ◌&&◌, ◌==◌, nat_eq, cond, List, [], ◌∷◌, ◌++◌, map, filter, Option, Some, None, IsSome, slice_get}
use Rattle.std.specs.Cmp.Lexicographic.{pointwise}
use Rattle.cv_values.specs.IdLaws.{IsId}
use Rattle.cv_values.specs.declared.doc.Doc.{Doc}
use Rattle.cv_keys.specs.Documents.{place, indexes_of}
use Rattle.cv_keys.specs.KeyBytes.{place_key}
use Rattle.cv_keys.specs.declared.schema.Index.{Index}
use Rattle.cv_keys.specs.declared.schema.Schema.{Schema}
use Rattle.cv_keys.specs.declared.write.Write.{Write}
use Rattle.cv_docs.specs.declared.entry.IndexEntry.{IndexEntry}
use Rattle.fn_tree.specs.Documents.{Docs, and_doc}
use Rattle.cv_reads.specs.declared.mark.Mark.{Mark}
use Rattle.cv_store.specs.Marks.{index_marks}
use Rattle.cv_store.specs.Ranges.{DocsInRange}
use Rattle.cv_core.specs.declared.change.Change.{Change}

-- the key of a document in an index
abbrev pub doc_key : Index → Doc → List ℕ
doc_key x d = place_key (place d x)

-- the new document, if any, has this key
abbrev pub has_key : Index → List ℕ → Option Doc → Bool
has_key x k None = false
has_key x k (Some d) = pointwise nat_eq (doc_key x d) k

-- the old document's key is gone, unless the new one has it too
abbrev pub gone : (table index : ℕ) → Index → (old new : Option Doc) → List Change
gone table index x None new = []
gone table index x (Some d) new = cond (has_key x (doc_key x d) new) [] (record { table = table; index = index; key = doc_key x d; version = None } ∷ [])

-- the new document's key has the version of this number
abbrev pub put : (table index : ℕ) → Index → (version : ℕ) → (new : Option Doc) → List Change
put table index x version None = []
put table index x version (Some d) = record { table = table; index = index; key = doc_key x d; version = Some version } ∷ []

-- in the indexes, numbered from k on
abbrev pub changes_in : (table version : ℕ) → (old new : Option Doc) → (k : ℕ) → List Index → List Change
changes_in table version old new k [] = []
changes_in table version old new k (x ∷ xs) = gone table k x old new ++ put table k x version new ++ changes_in table version old new (k + 1) xs

abbrev pub write_changes : Schema → (version : ℕ) → Write → List Change
write_changes schema version w = changes_in w.id.table version w.old w.new 0 (indexes_of schema w.id.table)

-- the number after that of a write's new document
abbrev pub next_version : ℕ → Option Doc → ℕ
next_version n None = n
next_version n (Some d) = n + 1

-- of the writes, whose new documents are numbered from n on
abbrev pub changes_of : Schema → (n : ℕ) → List Write → List Change
changes_of schema n [] = []
changes_of schema n (w ∷ ws) = write_changes schema n w ++ changes_of schema (next_version n w.new) ws

-- the new documents of the writes
abbrev pub new_docs : List Write → Docs
new_docs [] = []
new_docs (w ∷ ws) = and_doc w.new (new_docs ws)

-- the marks of a document, if there is one, in these indexes
abbrev pub marks_in : (ts write : ℕ) → (fresh : Bool) → (table : ℕ) → Option Doc → List Index → List Mark
marks_in ts write fresh table None xs = []
marks_in ts write fresh table (Some d) xs = index_marks ts write fresh table d 0 xs

-- ---- one index

abbrev pub is_at : (table index : ℕ) → Change → Bool
is_at table index c = (c.table == table) && (c.index == index)

-- the changes of one index
abbrev pub changes_at : (table index : ℕ) → List Change → List Change
changes_at table index cs = filter (is_at table index) cs

abbrev pub entry_of : (ts : ℕ) → Change → IndexEntry
entry_of ts c = record { key = c.key; ts = ts; version = c.version }

-- the entries that changes make at a timestamp
abbrev pub entries_of : (ts : ℕ) → List Change → List IndexEntry
entries_of ts cs = map (entry_of ts) cs

-- ---- what the key order law speaks of

abbrev pub IsTable : Schema → ℕ → Type 0
IsTable schema table = IsSome (slice_get schema.tables table)

-- the write is of a table that is there, its id fits, and the places of its documents are in range
pub record WriteFits (schema : Schema) (w : Write) : Type 0 where
  pub table : IsTable schema w.id.table
  pub id : IsId w.id
  pub docs : DocsInRange w.old w.new (indexes_of schema w.id.table)
