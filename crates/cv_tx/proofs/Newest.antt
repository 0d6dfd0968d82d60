-- The document of an id after some writes.
use Rattle.std.proofs.Common.{◌≡◌, ◌⊎◌, inl, inr, ℕ, zero, suc, Bool, true, false, cond, List, [], ◌∷◌, Option, Some, None, refl, sym, ap, ◌∙◌, subst}
use Rattle.std.specs.Option.{option_or}
use Rattle.cv_values.specs.declared.doc.Doc.{Doc}
use Rattle.cv_values.specs.declared.ids.DocId.{DocId}
use Rattle.cv_keys.specs.Documents.{index_at}
use Rattle.cv_keys.specs.declared.schema.Index.{Index}
use Rattle.cv_keys.specs.declared.schema.Schema.{Schema}
use Rattle.cv_keys.specs.declared.write.Write.{Write}
use Rattle.fn_tree.specs.Documents.{Docs, same_id, doc_of, with_doc, applied}
use Rattle.fn_tree.specs.Rows.{rows_in, rows_at}
use Rattle.fn_tree.specs.Scan.{id_interval, found}
use Rattle.fn_tree.specs.Schemas.{by_id, schema_of}
use Rattle.fn_tree.specs.SyntaxTree.{TableTree}
use Rattle.fn_tree.proofs.DocumentLemmas.{same_id_is, doc_of-with_doc, doc_of-with_doc_itself}
use Rattle.fn_tree.proofs.RowsOfIds.{doc_of-rows}
use Rattle.cv_tx.specs.Asks.{IsProgramSchema}
use Rattle.cv_tx.specs.Pending.{AreTrue, new_of}

abbrev pub newest : Option (Option Doc) → Option Doc → Option Doc
newest None d = d
newest (Some new) d = new

newest-or : (a b : Option (Option Doc)) (d : Option Doc) → newest (option_or a b) d ≡ newest a (newest b d)
newest-or None b d = refl
newest-or (Some x) b d = refl

pub doc_of-applied : (id : DocId) (ws : List Write) (ds : Docs) → AreTrue ds ws → doc_of id (applied ws ds) ≡ newest (new_of id ws) (doc_of id ds)
doc_of-applied id [] ds k = refl
doc_of-applied id (w ∷ ws) ds k =
    doc_of-applied id ws (with_doc w.id w.new ds) k.2 ∙ ap (newest (new_of id ws)) (go (same_id id w.id) refl)
    ∙ sym (newest-or (new_of id ws) (cond (same_id id w.id) (Some w.new) None) (doc_of id ds))
  where
    go : (b : Bool) → same_id id w.id ≡ b → doc_of id (with_doc w.id w.new ds) ≡ newest (cond b (Some w.new) None) (doc_of id ds)
    go true e = ap (λ j. doc_of j (with_doc w.id w.new ds)) (same_id_is id w.id e) ∙ doc_of-with_doc_itself w.id w.new ds k.1
    go false e = doc_of-with_doc id w.id w.new ds k.1 e

-- the first index of each table of a program is by id
first_index : (ts : List TableTree) (n : ℕ) → (index_at (schema_of ts) n 0 ≡ None) ⊎ (index_at (schema_of ts) n 0 ≡ Some by_id)
first_index [] zero = inl refl
first_index [] (suc n) = inl refl
first_index (t ∷ ts) zero = inr refl
first_index (t ∷ ts) (suc n) = first_index ts n

one_index : (x : Option Index) → (x ≡ None) ⊎ (x ≡ Some by_id) → (index : Index) → Some index ≡ x → x ≡ Some by_id
one_index x (inl e) index h = cc
one_index x (inr e) index h = e

-- where the table is there, the rows of an id's interval hold its document
pub found_there : (schema : Schema) (id : DocId) (ds : Docs) (index : Index) → IsProgramSchema schema → Some index ≡ index_at schema id.table 0
    → doc_of id (rows_at schema (id_interval id) ds) ≡ doc_of id ds
found_there schema id ds index is h =
    let there : index_at schema id.table 0 ≡ Some by_id =
    one_index (index_at schema id.table 0) (subst (λ (s : Schema). (index_at s id.table 0 ≡ None) ⊎ (index_at s id.table 0 ≡ Some by_id)) (sym is.1) (first_index is.0 id.table)) index h in
    ap (λ x. doc_of id (rows_in x (id_interval id) ds)) there ∙ doc_of-rows id ds

-- where it isn't, there is none
pub found_nowhere : (schema : Schema) (id : DocId) (ds : Docs) → None ≡ index_at schema id.table 0 → [] ≡ found (doc_of id (rows_at schema (id_interval id) ds))
found_nowhere schema id ds h = ap (λ x. found (doc_of id (rows_in x (id_interval id) ds))) h

-- the document of an id from that at the snapshot and the last write
pub found_after : (schema : Schema) (id : DocId) (ws : List Write) (ds : Docs) (index : Index) (last : Option (Option Doc)) → IsProgramSchema schema
    → Some index ≡ index_at schema id.table 0 → AreTrue ds ws → last ≡ new_of id ws
    → found (newest last (doc_of id ds)) ≡ found (doc_of id (rows_at schema (id_interval id) (applied ws ds)))
found_after schema id ws ds index last is h k e =
    ap (λ l. found (newest l (doc_of id ds))) e ∙ ap found (sym (found_there schema id (applied ws ds) index is h ∙ doc_of-applied id ws ds k))
