-- Documents by their ids, and what writes make of them.
use Rattle.std.specs.Prelude.{ℕ, Bool, not, ◌&&◌, ◌==◌, cond, List, [], ◌∷◌, filter, Option, Some, None}
use Rattle.cv_values.specs.declared.ids.DocId.{DocId}
use Rattle.cv_values.specs.declared.doc.Doc.{Doc}
use Rattle.cv_keys.specs.declared.write.Write.{Write}

-- documents, at most one of an id
abbrev pub Docs : Type 0
Docs = List Doc

abbrev pub same_id : DocId → DocId → Bool
same_id a b = (a.table == b.table) && (a.session == b.session) && (a.request == b.request) && (a.ordinal == b.ordinal)

-- the document of an id
abbrev pub doc_of : DocId → Docs → Option Doc
doc_of id [] = None
doc_of id (d ∷ ds) = cond (same_id id d.id) (Some d) (doc_of id ds)

abbrev pub without_id : DocId → Docs → Docs
without_id id ds = filter (λ d. not (same_id id d.id)) ds

abbrev pub and_doc : Option Doc → Docs → Docs
and_doc None ds = ds
and_doc (Some d) ds = d ∷ ds

-- the documents, where the id has this document, or none
abbrev pub with_doc : DocId → Option Doc → Docs → Docs
with_doc id new ds = and_doc new (without_id id ds)

-- the documents after some writes, one after another
abbrev pub applied : List Write → Docs → Docs
applied [] ds = ds
applied (w ∷ ws) ds = applied ws (with_doc w.id w.new ds)
