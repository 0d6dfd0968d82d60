-- The documents of all timestamps, and the rows of each index.
use Rattle.std.specs.Prelude.{ℕ, List, refl, map, length, Option, option_and_then, slice_get, [], None, Some}
use Rattle.std.specs.Coded.{Coded, code_by, coded×, coded_list, coded_ℕ}
use Rattle.cv_values.specs.declared.doc.Doc.{Doc}
use Rattle.cv_docs.specs.Codes.{docs_code, index_rows_code}
use Rattle.cv_docs.specs.declared.entry.IndexEntry.{IndexEntry}
use Rattle.cv_docs.specs.IndexRows.{IndexRows}

-- the documents in the order of their numbers, how many more fit without memory, and for each table the rows of its indexes
pub record Versioned : Type 0 where
  pub docs : List Doc
  pub spare : ℕ
  pub tables : List (List IndexRows)

abbrev pub versioned_code : Coded Versioned
versioned_code = code_by (List Doc × (ℕ × List (List IndexRows))) (coded× docs_code (coded× coded_ℕ (coded_list (coded_list index_rows_code))))
    (λ v. (v.docs, (v.spare, v.tables))) (λ p. record { docs = p.0; spare = p.1.0; tables = p.1.1 }) (λ _. refl)

-- the rows of an index of a table, if it is there
abbrev pub rows_of : (table index : ℕ) → List (List IndexRows) → Option IndexRows
rows_of table index tables = option_and_then (λ t. slice_get t index) (slice_get tables table)

abbrev pub entries_or : Option IndexRows → List IndexEntry
entries_or None = []
entries_or (Some l) = l.entries

abbrev pub spare_or : Option IndexRows → ℕ
spare_or None = 0
spare_or (Some l) = l.spare

-- the entries of an index of a table, and how many more fit without memory
abbrev pub entries_at : (table index : ℕ) → List (List IndexRows) → List IndexEntry
entries_at table index tables = entries_or (rows_of table index tables)

abbrev pub spare_at : (table index : ℕ) → List (List IndexRows) → ℕ
spare_at table index tables = spare_or (rows_of table index tables)

-- how many indexes each table has
abbrev pub shape : List (List IndexRows) → List ℕ
shape tables = map length tables
