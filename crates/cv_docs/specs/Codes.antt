-- Codes of the records that types are seen as.
use Rattle.std.specs.Prelude.{ℕ, List, refl}
use Rattle.std.specs.Coded.{Coded, code_by, coded×, coded_list, coded_ℕ}
use Rattle.cv_values.specs.contracts.doc.Doc.{the_row}
use Rattle.cv_values.specs.declared.doc.Doc.{Doc}
use Rattle.cv_docs.specs.Cut.{Taken}
use Rattle.cv_docs.specs.IndexRows.{IndexRows}
use Rattle.cv_docs.specs.Numbered.{Numbered}
use Rattle.cv_docs.specs.contracts.entry.IndexEntry as entry
use Rattle.cv_docs.specs.declared.entry.IndexEntry.{IndexEntry}

-- a list of documents is stored as that of their codes
abbrev pub docs_code : Coded (List Doc)
docs_code = coded_list the_row.coded

-- numbered documents are stored as the pair of their fields
abbrev pub numbered_code : Coded Numbered
numbered_code = code_by (List Doc × ℕ) (coded× docs_code coded_ℕ) (λ n. (n.docs, n.spare)) (λ p. record { docs = p.0; spare = p.1 }) (λ _. refl)

-- the documents taken are stored as the tuple of their fields
abbrev pub taken_code : Coded Taken
taken_code = code_by (List Doc × (ℕ × ℕ)) (coded× docs_code (coded× coded_ℕ coded_ℕ)) (λ t. (t.docs, (t.rows, t.size))) (λ p. record { docs = p.0; rows = p.1.0; size = p.1.1 }) (λ _. refl)

-- the entries of an index are stored as the pair of the fields
abbrev pub index_rows_code : Coded IndexRows
index_rows_code = code_by (List IndexEntry × ℕ) (coded× (coded_list entry.the_row.coded) coded_ℕ) (λ r. (r.entries, r.spare)) (λ p. record { entries = p.0; spare = p.1 }) (λ _. refl)
