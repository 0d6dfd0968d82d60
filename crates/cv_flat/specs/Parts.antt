-- Parts of a list of entries, and the rows that they give.
use Rattle.std.specs.Prelude.{ℕ, suc, Bool, cond, List, [], ◌∷◌, filter, Option, None}
use Rattle.cv_values.specs.declared.doc.Doc.{Doc}
use Rattle.cv_keys.specs.KeyBytes.{is_between}
use Rattle.cv_keys.specs.declared.interval.Interval.{Interval}
use Rattle.cv_docs.specs.Rows.{newest, doc_of, docs_of, is_newest}
use Rattle.cv_docs.specs.declared.entry.IndexEntry.{IndexEntry}

-- how many entries at the front of the list pass a test
abbrev pub passing : (IndexEntry → Bool) → List IndexEntry → ℕ
passing p [] = 0
passing p (x ∷ xs) = cond (p x) (suc (passing p xs)) 0

-- the entries whose keys lie in the interval
abbrev pub entries_in : Interval → List IndexEntry → List IndexEntry
entries_in i es = filter (λ e. is_between e.key i.lo i.hi) es

-- the document that an entry shows at ts where `next` is right behind it
abbrev pub row_of : List Doc → ℕ → IndexEntry → Option IndexEntry → Option Doc
row_of docs ts x next = cond (is_newest ts x next) (doc_of docs x) None

-- the rows that entries show at ts
abbrev pub rows_of : List Doc → ℕ → List IndexEntry → List Doc
rows_of docs ts es = docs_of docs (newest ts es)
