-- What a run says of the documents that it writes is so.
use Rattle.std.specs.Prelude.{◌≡◌, ℕ, ◌≤◌, Option, Some, None, IfSome, IfNone}
use Rattle.cv_values.specs.declared.ids.DocId.{DocId}
use Rattle.cv_keys.specs.declared.schema.Schema.{Schema}
use Rattle.fn_tree.specs.Course.{Course, done, ask, put}
use Rattle.fn_tree.specs.Documents.{Docs, doc_of, with_doc}
use Rattle.fn_tree.specs.Functions.{Start, course_of}
use Rattle.fn_tree.specs.Scan.{answer}
use Rattle.fn_tree.specs.Schemas.{schema_of}
use Rattle.fn_tree.specs.SyntaxTree.{ModuleTree}
use Rattle.fn_tree.specs.declared.stop.Put.{Put}
use Rattle.fn_tree.specs.declared.start.Origin.{Origin}

-- no document has an id of this run with this ordinal or a later one
abbrev pub IsFresh : Option Origin → ℕ → Docs → Type 0
IsFresh None k ds = Unit {0}
IsFresh (Some o) k ds = (table n : ℕ) → k ≤ n → doc_of (record { table = table; session = o.session; request = o.request; ordinal = n }) ds ≡ None

-- the id is one of this run's
abbrev pub IsOwn : Option Origin → DocId → Type 0
IsOwn None id = ⊥
IsOwn (Some o) id = (id.session ≡ o.session) × (id.request ≡ o.request)

-- the old document is the one that is there, the new one has the id, and an id with no document is one of this run's
pub record IsTrueOf (origin : Option Origin) (ds : Docs) (p : Put) : Type 0 where
  pub old : p.old ≡ doc_of p.id ds
  pub new : IfSome p.new (λ d. d.id ≡ p.id)
  pub own : IfNone p.old (IsOwn origin p.id)

-- each put along the course is true of the documents with the puts before it
abbrev pub PutsAreTrue : Schema → Option Origin → Docs → Course → Type 0
PutsAreTrue schema origin ds (done o) = Unit {0}
PutsAreTrue schema origin ds (ask q next) = PutsAreTrue schema origin ds (next (answer schema ds q).docs)
PutsAreTrue schema origin ds (put p next) = IsTrueOf origin ds p × PutsAreTrue schema origin (with_doc p.id p.new ds) next

-- the puts of each run are true of documents that hold no id of the run's own
abbrev pub RunsPutTruly : Type 0
RunsPutTruly = (m : ModuleTree) (s : Start) (ds : Docs) → IsFresh s.origin 0 ds → PutsAreTrue (schema_of m.tables) s.origin ds (course_of m s)
