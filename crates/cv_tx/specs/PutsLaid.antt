-- What the pending writes of some puts are.
use Rattle.std.specs.Prelude.{◌≡◌, List, [], ◌∷◌, IfSome}
use Rattle.cv_values.specs.IdLaws.{IsId}
use Rattle.fn_tree.specs.Course.{Ask}
use Rattle.fn_tree.specs.Documents.{Docs, doc_of, with_doc, applied}
use Rattle.fn_tree.specs.EntryViews.{reply_view}
use Rattle.fn_tree.specs.Run.{with_puts, writes_of}
use Rattle.fn_tree.specs.Scan.{answer}
use Rattle.fn_tree.specs.Schemas.{schema_of}
use Rattle.fn_tree.specs.SyntaxTree.{TableTree}
use Rattle.fn_tree.specs.declared.entry.Reply.{Reply}
use Rattle.fn_tree.specs.declared.stop.Put.{Put}
use Rattle.cv_tx.specs.Pending.{pending_after, AreTrue, written}

-- a put tells the document that is there, its new document has its id, and the id's parts fit their types
pub record IsTold (ds : Docs) (p : Put) : Type 0 where
  pub there : p.old ≡ doc_of p.id ds
  pub own : IfSome p.new (λ d. d.id ≡ p.id)
  pub fits : IsId p.id

-- each put tells the document that is there after those before it
abbrev pub AreTold : Docs → List Put → Type 0
AreTold ds [] = Unit {0}
AreTold ds (p ∷ ps) = IsTold ds p × AreTold (with_doc p.id p.new ds) ps

-- the pending writes of puts tell the documents that are there
abbrev pub PendingIsTrue : Type 0
PendingIsTrue = (ds : Docs) (puts : List Put) → AreTold ds puts → AreTrue ds (pending_after [] puts)

-- a read sees the same of documents with the pending writes as with the puts
abbrev pub PendingIsSeen : Type 0
PendingIsSeen = (tables : List TableTree) (ds : Docs) (puts : List Put) → AreTold ds puts → (q : Ask)
    → answer (schema_of tables) (applied (pending_after [] puts) ds) q ≡ answer (schema_of tables) (with_puts puts ds) q

-- what is written in the end are the run's writes
abbrev pub PendingIsWritten : Type 0
PendingIsWritten = (ds : Docs) (puts : List Put) → AreTold ds puts → (reply : Reply) → written reply (pending_after [] puts) ≡ writes_of (reply_view reply) ds puts
