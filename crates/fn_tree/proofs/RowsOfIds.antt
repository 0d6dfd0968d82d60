-- The rows of an id's interval hold the document of the id.
use Rattle.std.proofs.Common.{◌≡◌, Bool, true, false, not, ◌&&◌, cond, List, [], ◌∷◌, Some, refl, sym, ap, ◌∙◌, subst}
use Rattle.std.specs.Prelude.{◌==◌}
use Rattle.std.specs.Ordering.{is_gt, is_ge}
use Rattle.std.proofs.lemmas.Bool.{cond_both, cond-true, cond-false, and_from, eq-eqb}
use Rattle.std.proofs.lemmas.Cmp.{tied_itself}
use Rattle.cv_values.specs.Ids.{id_text}
use Rattle.cv_values.specs.Value.{string}
use Rattle.cv_values.specs.declared.doc.Doc.{Doc}
use Rattle.cv_values.specs.declared.ids.DocId.{DocId}
use Rattle.cv_keys.specs.Documents.{place}
use Rattle.cv_keys.specs.Places.{Place, place_cmp, begins_with, lies_in}
use Rattle.fn_tree.specs.Documents.{Docs, same_id, doc_of}
use Rattle.fn_tree.specs.Rows.{placed_in, row_cmp, is_within, rows_in}
use Rattle.fn_tree.specs.Scan.{id_interval}
use Rattle.fn_tree.specs.Schemas.{by_id}
use Rattle.fn_tree.proofs.DocumentLemmas.{same_id_is, by_test}
use Rattle.fn_tree.proofs.ItemOrders.{places_total}

-- the place of an id in `by_id`
abbrev place_of : DocId → Place
place_of id = Some (string (id_text id)) ∷ []

never_both : {A : Type 0} (b : Bool) → b ≡ true → b ≡ false → A
never_both true p q = cc
never_both false p q = cc

placed_other : (id : DocId) (d : Doc) (es : List Doc) → same_id id d.id ≡ false → doc_of id (placed_in (row_cmp by_id) d es) ≡ doc_of id es
placed_other id d [] e = cond-false (same_id id d.id) _ _ e
placed_other id d (x ∷ es) e =
    cond_both (is_gt (row_cmp by_id d x)) (x ∷ placed_in (row_cmp by_id) d es) (d ∷ x ∷ es) (λ l. doc_of id l ≡ doc_of id (x ∷ es))
    (λ _. ap (cond (same_id id x.id) (Some x)) (placed_other id d es e))
    (λ _. cond-false (same_id id d.id) _ _ e)

-- a document isn't over one of its own id
not_over_own : (id : DocId) (d x : Doc) → same_id id d.id ≡ true → same_id id x.id ≡ true → is_gt (row_cmp by_id d x) ≡ false
not_over_own id d x e f =
    ap (λ k. is_gt (place_cmp (place_of d.id) (place_of k))) (sym (same_id_is id x.id f) ∙ same_id_is id d.id e)
    ∙ ap is_gt (tied_itself places_total (place d by_id))

-- of one id the newest stands first
placed_itself : (id : DocId) (d : Doc) (es : List Doc) → same_id id d.id ≡ true → doc_of id (placed_in (row_cmp by_id) d es) ≡ Some d
placed_itself id d [] e = cond-true (same_id id d.id) _ _ e
placed_itself id d (x ∷ es) e =
    cond_both (is_gt (row_cmp by_id d x)) (x ∷ placed_in (row_cmp by_id) d es) (d ∷ x ∷ es) (λ l. doc_of id l ≡ Some d)
    (λ g. by_test (same_id id x.id)
    (λ s. never_both (is_gt (row_cmp by_id d x)) g (not_over_own id d x e s))
    (λ s. cond-false (same_id id x.id) _ _ s ∙ placed_itself id d es e))
    (λ _. cond-true (same_id id d.id) _ _ e)

lies_there : (id : DocId) → lies_in (place_of id) (id_interval id) ≡ true
lies_there id =
    let q = place_of id in
    let tied = tied_itself places_total q in
    and_from _ _ (ap is_ge tied) (ap (λ r. not (is_gt r && not (begins_with q q))) tied)

is_there : (id : DocId) (d : Doc) → same_id id d.id ≡ true → is_within by_id (id_interval id) d ≡ true
is_there id d e =
    subst (λ k. (k.table == id.table) && lies_in (place_of k) (id_interval id) ≡ true) (same_id_is id d.id e)
    (and_from _ _ (eq-eqb id.table id.table refl) (lies_there id))

pub doc_of-rows : (id : DocId) (ds : Docs) → doc_of id (rows_in (Some by_id) (id_interval id) ds) ≡ doc_of id ds
doc_of-rows id [] = refl
doc_of-rows id (d ∷ ds) =
    let rows = rows_in (Some by_id) (id_interval id) ds in
    by_test (same_id id d.id)
    (λ s. ap (doc_of id) (cond-true (is_within by_id (id_interval id) d) _ _ (is_there id d s))
    ∙ placed_itself id d rows s ∙ sym (cond-true (same_id id d.id) _ _ s))
    (λ s. cond_both (is_within by_id (id_interval id) d) _ _ (λ l. doc_of id l ≡ doc_of id ds)
    (λ _. placed_other id d rows s ∙ doc_of-rows id ds) (λ _. doc_of-rows id ds)
    ∙ sym (cond-false (same_id id d.id) _ _ s))
