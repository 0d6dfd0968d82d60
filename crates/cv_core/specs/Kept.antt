-- What the rows of a core hold: those of each timestamp.
use Rattle.std.specs.Prelude.{◌≡◌, ℕ, ◌+◌, ◌≤◌, List, map, length, Some, option_map, option_and_then, slice_get}
use Rattle.std.specs.List.{AllByRecursion, filter_map}
use Rattle.cv_values.specs.declared.doc.Doc.{Doc}
use Rattle.cv_keys.specs.Documents.{index_at}
use Rattle.cv_keys.specs.declared.schema.Index.{Index}
use Rattle.cv_keys.specs.declared.schema.Schema.{Schema}
use Rattle.cv_docs.specs.Entries.{IsInOrder, AllBefore, AreKnown}
use Rattle.cv_docs.specs.History.{Current, current}
use Rattle.fn_tree.specs.History.{Entry, History, docs_at}
use Rattle.fn_tree.specs.Rows.{rows}
use Rattle.cv_core.specs.Changes.{doc_key, WriteFits}
use Rattle.cv_core.specs.Versioned.{Versioned, entries_at, shape}

-- documents under their keys
abbrev pub Keyed : Type 0
Keyed = List (List ℕ × Doc)

-- the documents of versions that aren't gone
abbrev pub shown : List Doc → Current → Keyed
shown docs m = filter_map (λ p. option_map (λ d. (p.0, d)) (option_and_then (λ n. slice_get docs n) p.1)) m

-- rows under their keys in an index
abbrev pub keyed : Index → List Doc → Keyed
keyed x ds = map (λ d. (doc_key x d, d)) ds

-- what the key order law speaks of, in each entry
abbrev pub EntryFits : Schema → Entry → Type 0
EntryFits schema e = AllByRecursion (WriteFits schema) e.writes

-- the newest versions at each timestamp are the rows of the documents there
pub record HoldsRows (schema : Schema) (h : History) (v : Versioned) : Type 0 where
  pub shape : shape v.tables ≡ map (λ t. length t.indexes) schema.tables
  pub order : (table index : ℕ) → IsInOrder (entries_at table index v.tables)
  pub before : (table index : ℕ) → AllBefore (length h + 1) (entries_at table index v.tables)
  pub known : (table index : ℕ) → AreKnown (length v.docs) (entries_at table index v.tables)
  pub rows : (table index : ℕ) (x : Index) → index_at schema table index ≡ Some x → (ts : ℕ) → ts ≤ length h
      → shown v.docs (current ts (entries_at table index v.tables)) ≡ keyed x (rows table x (docs_at h ts))
