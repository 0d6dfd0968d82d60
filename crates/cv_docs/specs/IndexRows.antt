-- The entries of an index, with spare room.
use Rattle.std.specs.Prelude.{ℕ, List}
use Rattle.cv_docs.specs.declared.entry.IndexEntry.{IndexEntry}

-- the entries in order, and how many more fit without memory
pub record IndexRows : Type 0 where
  pub entries : List IndexEntry
  pub spare : ℕ

-- what an index means, by the two members of its type
abbrev pub rows_by : {R : Type 0} → (entries : R → List IndexEntry) → (spare : R → ℕ) → R → IndexRows
rows_by entries spare r = record { entries = entries r; spare = spare r }
