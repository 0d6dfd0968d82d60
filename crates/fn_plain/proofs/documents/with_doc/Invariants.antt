use Rattle.std.proofs.Common.{◌≡◌, ◌++◌, drop}
use Rattle.fn_tree.specs.Documents.{without_id, with_doc}
use Rattle.fn_plain.proofs.documents.with_doc.Given as goal

-- what is kept so far, and then what is kept of the rest
abbrev pub invariant-loop-doc : goal.invariant-loop-doc
invariant-loop-doc l = l.with.items ++ without_id l.id (drop l.doc-index l.docs) ≡ with_doc l.id l.new l.docs
