-- The rows of an id's interval, and the tables of documents.
use Rattle.std.proofs.Common.{◌≡◌, Bool, true, false, not, ◌&&◌, cond, List, [], ◌∷◌, Option, Some, None, refl, sym, ap, ◌∙◌, subst}
use Rattle.std.specs.Prelude.{◌==◌, IfSome, IsSome, filter, slice_get}
use Rattle.std.specs.List.{AllByRecursion}
use Rattle.std.specs.Ordering.{is_eq, is_gt, is_ge}
use Rattle.std.specs.declared.cmp.Ordering.{Ordering}
use Rattle.std.specs.declared.cmp.Ordering.TheVariants.{Less, Equal, Greater}
use Rattle.std.specs.Cmp.Lexicographic.{nat_list_cmp_total}
use Rattle.std.proofs.lemmas.Bool.{and_from, eq-eqb, cond_both}
use Rattle.std.proofs.lemmas.Cmp.{tied_itself}
use Rattle.std.proofs.lemmas.Map.Lookups.{exact_bytes}
use Rattle.cv_values.specs.IdLaws.{IsId}
use Rattle.cv_values.specs.Ids.{id_text, read_id}
use Rattle.cv_values.specs.Order.{text_cmp}
use Rattle.cv_values.specs.Value.{string}
use Rattle.cv_values.specs.declared.doc.Doc.{Doc}
use Rattle.cv_values.specs.declared.ids.DocId.{DocId}
use Rattle.cv_values.proofs.IdTexts.{ids_are_read_back}
use Rattle.cv_keys.specs.Places.{Place, lies_in}
use Rattle.cv_keys.specs.declared.schema.Schema.{Schema}
use Rattle.cv_keys.specs.declared.schema.Table.{Table}
use Rattle.cv_keys.specs.declared.write.Write.{Write}
use Rattle.fn_tree.specs.Documents.{Docs, same_id, doc_of, with_doc, applied}
use Rattle.fn_tree.specs.History.{History, AreRuns, docs_after}
use Rattle.fn_tree.specs.Rows.{placed_in, row_cmp, rows_by, is_within}
use Rattle.fn_tree.specs.Scan.{id_interval, found}
use Rattle.fn_tree.specs.Schemas.{by_id}
use Rattle.fn_tree.specs.SyntaxTree.{ModuleTree}
use Rattle.fn_tree.proofs.DocumentLemmas.{same_id_is, same_id_itself, by_test}
use Rattle.fn_tree.proofs.TrueEntries.{TellTruly, entry_tells, Once}
use Rattle.cv_core.specs.Changes.{IsTable, WriteFits}
use Rattle.cv_core.specs.Kept.{EntryFits}

-- the place of an id in `by_id`
abbrev place_of : DocId → Place
place_of id = Some (string (id_text id)) ∷ []

abbrev lies : Ordering → Bool
lies o = is_ge o && not (is_gt o && not (is_eq o && true))

lies_equal : (o : Ordering) → lies o ≡ is_eq o
lies_equal Less = refl
lies_equal Equal = refl
lies_equal Greater = refl

lies_by_text : (a b : DocId) (o : Ordering) → text_cmp (id_text a) (id_text b) ≡ o → lies_in (place_of a) (id_interval b) ≡ is_eq o
lies_by_text a b Less e = rw e refl
lies_by_text a b Equal e = rw e refl
lies_by_text a b Greater e = rw e refl

ids_equal : (a b : DocId) → IsId a → IsId b → text_cmp (id_text a) (id_text b) ≡ Equal → a ≡ b
ids_equal a b ha hb e =
    let back : Some a ≡ Some b = sym (ids_are_read_back a ha) ∙ ap read_id (exact_bytes (id_text a) (id_text b) e) ∙ ids_are_read_back b hb in cc

-- a document lies in the interval of an id exactly where the id is its own
within_is : (id : DocId) (d : Doc) → IsId id → IsId d.id → is_within by_id (id_interval id) d ≡ same_id id d.id
within_is id d hi hd = by_test (same_id id d.id)
    (λ s. let same : id ≡ d.id = same_id_is id d.id s in
    and_from (d.id.table == id.table) (lies_in (place_of d.id) (id_interval id)) (eq-eqb d.id.table id.table (ap (λ (j : DocId). j.table) (sym same)))
    (lies_by_text d.id id Equal (ap (λ (j : DocId). text_cmp (id_text d.id) (id_text j)) same ∙ tied_itself nat_list_cmp_total (id_text d.id))) ∙ sym s)
    (λ s. and_false (d.id.table == id.table) (lies_in (place_of d.id) (id_interval id)) (apart (text_cmp (id_text d.id) (id_text id)) refl s) ∙ sym s)
  where
    and_false : (a b : Bool) → b ≡ false → (a && b) ≡ false
    and_false true b e = e
    and_false false b e = refl

    apart : (o : Ordering) → text_cmp (id_text d.id) (id_text id) ≡ o → same_id id d.id ≡ false → lies_in (place_of d.id) (id_interval id) ≡ false
    apart Less e s = lies_by_text d.id id Less e
    apart Equal e s =
        let same : d.id ≡ id = ids_equal d.id id hd hi e in
        let yes : same_id id d.id ≡ true = ap (same_id id) same ∙ same_id_itself id in
        let f : true ≡ false = sym yes ∙ s in cc
    apart Greater e s = lies_by_text d.id id Greater e

-- the rows of one id are its document, if there is one
none_of : (id : DocId) (ds : Docs) → doc_of id ds ≡ None → AllByRecursion (λ d. IsId d.id) ds → IsId id → rows_by by_id (is_within by_id (id_interval id)) ds ≡ []
none_of id [] e h hi = refl
none_of id (d ∷ ds) e h hi = go (same_id id d.id) refl (none_of id ds) e
  where
    go : (b : Bool) → same_id id d.id ≡ b → (doc_of id ds ≡ None → AllByRecursion (λ d. IsId d.id) ds → IsId id → rows_by by_id (is_within by_id (id_interval id)) ds ≡ [])
        → cond b (Some d) (doc_of id ds) ≡ None → rows_by by_id (is_within by_id (id_interval id)) (d ∷ ds) ≡ []
    go true s ih q = cc
    go false s ih q =
        ap (λ t. cond t (placed_in (row_cmp by_id) d (rows_by by_id (is_within by_id (id_interval id)) ds)) (rows_by by_id (is_within by_id (id_interval id)) ds)) (within_is id d hi h.0 ∙ s)
        ∙ ih q h.1 hi

pub rows_of_id : (id : DocId) (ds : Docs) → IsId id → AllByRecursion (λ d. IsId d.id) ds → Once ds → rows_by by_id (is_within by_id (id_interval id)) ds ≡ found (doc_of id ds)
rows_of_id id [] hi h o = refl
rows_of_id id (d ∷ ds) hi h o = go (same_id id d.id) refl (rows_of_id id ds hi h.1 o.1)
  where
    rows : List Doc
    rows = rows_by by_id (is_within by_id (id_interval id)) ds

    go : (b : Bool) → same_id id d.id ≡ b → rows ≡ found (doc_of id ds) → rows_by by_id (is_within by_id (id_interval id)) (d ∷ ds) ≡ found (cond b (Some d) (doc_of id ds))
    go true s ih =
        ap (λ t. cond t (placed_in (row_cmp by_id) d rows) rows) (within_is id d hi h.0 ∙ s)
        ∙ ap (placed_in (row_cmp by_id) d) (none_of id ds (ap (λ j. doc_of j ds) (same_id_is id d.id s) ∙ o.0) h.1 hi)
    go false s ih = ap (λ t. cond t (placed_in (row_cmp by_id) d rows) rows) (within_is id d hi h.0 ∙ s) ∙ ih

-- ---- the ids of documents fit, and their tables are there

abbrev pub IsHeld : Schema → Doc → Type 0
IsHeld schema d = IsId d.id × IsTable schema d.id.table

held_filter : (schema : Schema) (keep : Doc → Bool) (ds : Docs) → AllByRecursion (IsHeld schema) ds → AllByRecursion (IsHeld schema) (filter keep ds)
held_filter schema keep [] h = tt
held_filter schema keep (d ∷ ds) h = cond_both (keep d) _ _ (AllByRecursion (IsHeld schema)) (λ _. (h.0, held_filter schema keep ds h.1)) (λ _. held_filter schema keep ds h.1)

held_with : (schema : Schema) (id : DocId) (new : Option Doc) (ds : Docs) → IfSome new (IsHeld schema) → AllByRecursion (IsHeld schema) ds → AllByRecursion (IsHeld schema) (with_doc id new ds)
held_with schema id None ds k h = held_filter schema (λ d. not (same_id id d.id)) ds h
held_with schema id (Some d) ds k h = (k, held_filter schema (λ d. not (same_id id d.id)) ds h)

held_new : (schema : Schema) (w : Write) → WriteFits schema w → IfSome w.new (λ d. d.id ≡ w.id) → IfSome w.new (IsHeld schema)
held_new schema w f own = go w.new own
  where
    go : (new : Option Doc) → IfSome new (λ d. d.id ≡ w.id) → IfSome new (IsHeld schema)
    go None own = tt
    go (Some d) own = (subst IsId (sym own) f.id, subst (λ (j : DocId). IsTable schema j.table) (sym own) f.table)

held_applied : (schema : Schema) (ws : List Write) (ds : Docs) → TellTruly ds ws → AllByRecursion (WriteFits schema) ws → AllByRecursion (IsHeld schema) ds → AllByRecursion (IsHeld schema) (applied ws ds)
held_applied schema [] ds t f h = h
held_applied schema (w ∷ ws) ds t f h = held_applied schema ws (with_doc w.id w.new ds) t.2 f.1 (held_with schema w.id w.new ds (held_new schema w f.0 t.1) h)

pub held_after : (schema : Schema) (m : ModuleTree) (h : History) (ds : Docs) → AreRuns m ds h → AllByRecursion (EntryFits schema) h → AllByRecursion (IsHeld schema) ds
    → AllByRecursion (IsHeld schema) (docs_after h ds)
held_after schema m [] ds r f k = k
held_after schema m (e ∷ h) ds r f k = held_after schema m h (applied e.writes ds) r.1 f.1 (held_applied schema e.writes ds (entry_tells m ds e r.0) f.0 k)

pub ids_of : (schema : Schema) (ds : Docs) → AllByRecursion (IsHeld schema) ds → AllByRecursion (λ d. IsId d.id) ds
ids_of schema [] h = tt
ids_of schema (d ∷ ds) h = (h.0.0, ids_of schema ds h.1)

-- where the table isn't there, nor is the id
pub not_held : (schema : Schema) (id : DocId) (ds : Docs) → slice_get schema.tables id.table ≡ None → AllByRecursion (IsHeld schema) ds → doc_of id ds ≡ None
not_held schema id [] e h = refl
not_held schema id (d ∷ ds) e h = go (same_id id d.id) refl (not_held schema id ds e h.1)
  where
    go : (b : Bool) → same_id id d.id ≡ b → doc_of id ds ≡ None → cond b (Some d) (doc_of id ds) ≡ None
    go true s ih =
        let there : IsTable schema id.table = subst (λ (j : DocId). IsTable schema j.table) (sym (same_id_is id d.id s)) h.0.1 in
        let none : IsSome {T = Table} None = subst IsSome e there in cc
    go false s ih = ih
