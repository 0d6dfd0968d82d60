-- The rows of an index at a timestamp.
use Rattle.std.specs.Prelude.{ℕ, Bool, false, not, ◌&&◌, ◌||◌, nat_le, cond, List, [], ◌∷◌, filter, Option, Some, None, option_and_then, slice_get}
use Rattle.std.specs.List.{filter_map}
use Rattle.std.specs.Ordering.{is_eq}
use Rattle.cv_values.specs.Order.{text_cmp}
use Rattle.cv_values.specs.declared.doc.Doc.{Doc}
use Rattle.cv_keys.specs.KeyBytes.{is_between}
use Rattle.cv_keys.specs.declared.interval.Interval.{Interval}
use Rattle.cv_docs.specs.declared.entry.IndexEntry.{IndexEntry}

-- whether an entry is one of the key up to ts
abbrev pub counts : ℕ → List ℕ → IndexEntry → Bool
counts ts k x = is_eq (text_cmp x.key k) && nat_le x.ts ts

-- whether the list has an entry of the key up to ts
abbrev pub has_entry : List ℕ → ℕ → List IndexEntry → Bool
has_entry k ts [] = false
has_entry k ts (x ∷ xs) = counts ts k x || has_entry k ts xs

-- the newest entry up to ts of each key: in a list in order, no later one of the key up to ts follows it
abbrev pub newest : ℕ → List IndexEntry → List IndexEntry
newest ts [] = []
newest ts (x ∷ xs) = cond (nat_le x.ts ts && not (has_entry x.key ts xs)) (x ∷ newest ts xs) (newest ts xs)

-- the document of an entry, none where it is gone
abbrev pub doc_of : List Doc → IndexEntry → Option Doc
doc_of docs e = option_and_then (λ n. slice_get docs n) e.version

-- the documents of entries that aren't gone
abbrev pub docs_of : List Doc → List IndexEntry → List Doc
docs_of docs es = filter_map (doc_of docs) es

-- the rows at ts whose keys lie in the interval, in key order
abbrev pub rows_at : List Doc → ℕ → Interval → List IndexEntry → List Doc
rows_at docs ts i es = docs_of docs (filter (λ e. is_between e.key i.lo i.hi) (newest ts es))

-- whether an entry is up to ts, and the one right behind it, if any, is not one of its key up to ts
abbrev pub is_newest : ℕ → IndexEntry → Option IndexEntry → Bool
is_newest ts x None = nat_le x.ts ts
is_newest ts x (Some y) = nat_le x.ts ts && not (counts ts x.key y)
