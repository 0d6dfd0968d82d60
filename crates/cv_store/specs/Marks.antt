-- The marks of entries.
use Rattle.std.specs.Prelude.{ℕ, ◌+◌, Bool, true, false, List, [], ◌∷◌, ◌++◌, Option, Some, None}
use Rattle.cv_values.specs.declared.doc.Doc.{Doc}
use Rattle.cv_keys.specs.Documents.{place, indexes_of}
use Rattle.cv_keys.specs.KeyBytes.{place_key}
use Rattle.cv_keys.specs.declared.schema.Index.{Index}
use Rattle.cv_keys.specs.declared.schema.Schema.{Schema}
use Rattle.cv_keys.specs.declared.write.Write.{Write}
use Rattle.cv_reads.specs.declared.mark.Mark.{Mark}
use Rattle.fn_tree.specs.History.{Entry}

-- the document's key in each of the indexes, numbered from k on
abbrev pub index_marks : (ts write : ℕ) → (fresh : Bool) → (table : ℕ) → Doc → (k : ℕ) → List Index → List Mark
index_marks ts write fresh table d k [] = []
index_marks ts write fresh table d k (x ∷ xs) =
    record { ts = ts; write = write; fresh = fresh; table = table; index = k; key = place_key (place d x) } ∷ index_marks ts write fresh table d (k + 1) xs

abbrev pub doc_marks : Schema → (ts write : ℕ) → (fresh : Bool) → (table : ℕ) → Option Doc → List Mark
doc_marks schema ts write fresh table None = []
doc_marks schema ts write fresh table (Some d) = index_marks ts write fresh table d 0 (indexes_of schema table)

abbrev pub write_marks : Schema → (ts write : ℕ) → Write → List Mark
write_marks schema ts write w = doc_marks schema ts write false w.id.table w.old ++ doc_marks schema ts write true w.id.table w.new

-- of the writes, numbered from n on
abbrev pub writes_marks : Schema → (ts n : ℕ) → List Write → List Mark
writes_marks schema ts n [] = []
writes_marks schema ts n (w ∷ ws) = write_marks schema ts n w ++ writes_marks schema ts (n + 1) ws

-- the marks of the entry at a timestamp
abbrev pub entry_marks : Schema → (ts : ℕ) → Entry → List Mark
entry_marks schema ts e = writes_marks schema ts 0 e.writes

-- the marks of each entry after a timestamp
abbrev pub marks_by_entry : Schema → (ts : ℕ) → List Entry → List (List Mark)
marks_by_entry schema ts [] = []
marks_by_entry schema ts (e ∷ h) = entry_marks schema (ts + 1) e ∷ marks_by_entry schema (ts + 1) h
