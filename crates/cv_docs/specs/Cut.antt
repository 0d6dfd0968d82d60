-- Where a scan stops.
use Rattle.std.specs.Prelude.{ℕ, zero, suc, ◌-◌, Bool, nat_lt, cond, List, [], ◌∷◌, ◌++◌, reverse}
use Rattle.cv_values.specs.Sizes.{size_of}
use Rattle.cv_values.specs.Value.{object, members_of}
use Rattle.cv_values.specs.declared.doc.Doc.{Doc}
use Rattle.cv_keys.specs.declared.interval.Interval.{Interval}
use Rattle.cv_docs.specs.Rows.{rows_at}
use Rattle.cv_docs.specs.declared.entry.IndexEntry.{IndexEntry}

-- the size units of the object of a document's fields
abbrev pub doc_size : Doc → ℕ
doc_size d = size_of (object (members_of d.fields))

-- the documents up to the one that is number `rows`, or that brings the sum of sizes above `size`
abbrev pub cut : ℕ → ℕ → List Doc → List Doc
cut zero size ds = []
cut (suc rows) size [] = []
cut (suc rows) size (d ∷ ds) = d ∷ cond (nat_lt size (doc_size d)) [] (cut rows (size - doc_size d) ds)

-- what a scan gives: the rows at ts in the interval, in key order or against it, up to where it stops
abbrev pub scanned : List Doc → ℕ → Interval → Bool → ℕ → ℕ → List IndexEntry → List Doc
scanned docs ts i desc rows size es = cut rows size (cond desc (reverse (rows_at docs ts i es)) (rows_at docs ts i es))

-- the documents that a scan has taken, and what it may still take
pub record Taken : Type 0 where
  pub docs : List Doc
  pub rows : ℕ
  pub size : ℕ

-- what has been taken in the end where these documents are still to come
abbrev pub ending : Taken → List Doc → List Doc
ending t ds = t.docs ++ cut t.rows t.size ds
