-- What a store reads from documents.
use Rattle.std.specs.Prelude.{◌≡◌, ℕ, zero, suc, ◌-◌, Bool, nat_lt, cond, List, [], ◌∷◌, IsSome}
use Rattle.std.specs.List.{AllByRecursion}
use Rattle.cv_values.specs.declared.doc.Doc.{Doc}
use Rattle.cv_values.specs.declared.ids.DocId.{DocId}
use Rattle.cv_keys.specs.Documents.{index_at}
use Rattle.cv_keys.specs.Intervals.{in_bytes}
use Rattle.cv_keys.specs.KeyOrder.{EndInRange}
use Rattle.cv_keys.specs.Places.{PlaceInterval}
use Rattle.cv_keys.specs.declared.schema.Schema.{Schema}
use Rattle.fn_tree.specs.Documents.{Docs, doc_of}
use Rattle.fn_tree.specs.Rows.{rows_at}
use Rattle.fn_tree.specs.Scan.{doc_size, in_direction, found}
use Rattle.cv_store.specs.declared.proposal.ReadReq.{ReadReq}
use Rattle.cv_store.specs.declared.proposal.ReadReq.TheVariants.{Get, Scan}

-- one read: of a document by its id, or of the first rows of an interval
pub data StoreRead : Type 0 where
  one_doc : DocId → StoreRead
  first_rows : PlaceInterval → (desc : Bool) → (rows size : ℕ) → StoreRead

-- a read in bytes stands for one in places; the ends are some that the key order law speaks of
abbrev pub StandsFor : ReadReq → StoreRead → Type 0
StandsFor (Get id) q = q ≡ one_doc id
StandsFor (Scan interval desc rows size) q =
    (i : PlaceInterval) × (q ≡ first_rows i desc rows size) × (interval ≡ in_bytes i) × EndInRange i.lo × EndInRange i.hi

-- both ends of each interval are some that the key order law speaks of
abbrev pub EndsInRange : List PlaceInterval → Type 0
EndsInRange reads = AllByRecursion (λ i. EndInRange i.lo × EndInRange i.hi) reads

-- the index of a scan is there
abbrev pub IsReadable : Schema → ReadReq → Type 0
IsReadable schema (Get id) = Unit {0}
IsReadable schema (Scan i desc rows size) = IsSome (index_at schema i.table i.index)

-- the rows up to the one that is number `rows`, or that brings the sum of sizes above `size`
abbrev pub cut : (rows size : ℕ) → List Doc → List Doc
cut zero size ds = []
cut (suc rows) size [] = []
cut (suc rows) size (d ∷ ds) = d ∷ cond (nat_lt size (doc_size d)) [] (cut rows (size - doc_size d) ds)

-- what one read gives: the document of the id, if there is one, or the first rows in the direction
abbrev pub read_from : Schema → Docs → StoreRead → List Doc
read_from schema ds (one_doc id) = found (doc_of id ds)
read_from schema ds (first_rows i desc rows size) = cut rows size (in_direction desc (rows_at schema i ds))
