use Rattle.std.proofs.Common.{◌≡◌, drop}
use Rattle.fn_tree.specs.Documents.{doc_of}
use Rattle.fn_plain.proofs.documents.doc_of.Given as goal

abbrev pub invariant-loop-doc : goal.invariant-loop-doc
invariant-loop-doc l = doc_of l.id (drop l.doc-index l.docs) ≡ doc_of l.id l.docs
