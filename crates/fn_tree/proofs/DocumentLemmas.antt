-- Documents by their ids, after a change of one.
use Rattle.std.proofs.Common.{◌≡◌, Bool, true, false, not, cond, [], ◌∷◌, Option, Some, None, refl, sym, ap, ◌∙◌}
use Rattle.std.specs.Prelude.{IfSome}
use Rattle.std.proofs.lemmas.Bool.{cond-true, cond-false, and_parts, and_from, eqb-true, eq-eqb}
use Rattle.cv_values.specs.declared.doc.Doc.{Doc}
use Rattle.cv_values.specs.declared.ids.DocId.{DocId}
use Rattle.fn_tree.specs.Documents.{Docs, same_id, doc_of, without_id, with_doc}

pub same_id_is : (a b : DocId) → same_id a b ≡ true → a ≡ b
same_id_is a b e =
    let o = and_parts _ _ e in
    let r = and_parts _ _ o.0 in
    let s = and_parts _ _ r.0 in
    let table = eqb-true a.table b.table s.0 in
    let session = eqb-true a.session b.session s.1 in
    let request = eqb-true a.request b.request r.1 in
    let ordinal = eqb-true a.ordinal b.ordinal o.1 in
    λ i. record { table = table i; session = session i; request = request i; ordinal = ordinal i }

pub same_id_itself : (a : DocId) → same_id a a ≡ true
same_id_itself a =
    let table = eq-eqb a.table a.table refl in
    let session = eq-eqb a.session a.session refl in
    let request = eq-eqb a.request a.request refl in
    and_from _ _ (and_from _ _ (and_from _ _ table session) request) (eq-eqb a.ordinal a.ordinal refl)

pub by_test : {A : Type 0} (b : Bool) → (b ≡ true → A) → (b ≡ false → A) → A
by_test true f g = f refl
by_test false f g = g refl

pub some_same : {A : Type 0} (a b : A) → Some a ≡ Some b → a ≡ b
some_same a b e = cc

pub some_none : {A : Type 0} (a : A) → Some a ≡ None → ⊥
some_none a e = cc

-- other ids keep their documents
pub doc_of-without : (other id : DocId) (ds : Docs) → same_id other id ≡ false → doc_of other (without_id id ds) ≡ doc_of other ds
doc_of-without other id [] e = refl
doc_of-without other id (d ∷ ds) e = go (same_id id d.id) refl (doc_of-without other id ds e)
  where
    go : (b : Bool) → same_id id d.id ≡ b → doc_of other (without_id id ds) ≡ doc_of other ds
        → doc_of other (cond (not b) (d ∷ without_id id ds) (without_id id ds)) ≡ cond (same_id other d.id) (Some d) (doc_of other ds)
    go true p ih = ih ∙ sym (cond-false (same_id other d.id) _ _ (ap (same_id other) (sym (same_id_is id d.id p)) ∙ e))
    go false p ih = ap (cond (same_id other d.id) (Some d)) ih

pub doc_of-with_doc : (other id : DocId) (new : Option Doc) (ds : Docs) → IfSome new (λ d. d.id ≡ id) → same_id other id ≡ false →
    doc_of other (with_doc id new ds) ≡ doc_of other ds
doc_of-with_doc other id None ds h e = doc_of-without other id ds e
doc_of-with_doc other id (Some d) ds h e = cond-false (same_id other d.id) _ _ (ap (same_id other) h ∙ e) ∙ doc_of-without other id ds e

-- the id itself has what was put there
pub doc_of-without_itself : (id : DocId) (ds : Docs) → doc_of id (without_id id ds) ≡ None
doc_of-without_itself id [] = refl
doc_of-without_itself id (d ∷ ds) = go (same_id id d.id) refl (doc_of-without_itself id ds)
  where
    go : (b : Bool) → same_id id d.id ≡ b → doc_of id (without_id id ds) ≡ None → doc_of id (cond (not b) (d ∷ without_id id ds) (without_id id ds)) ≡ None
    go true p ih = ih
    go false p ih = cond-false (same_id id d.id) _ _ p ∙ ih

pub doc_of-with_doc_itself : (id : DocId) (new : Option Doc) (ds : Docs) → IfSome new (λ d. d.id ≡ id) → doc_of id (with_doc id new ds) ≡ new
doc_of-with_doc_itself id None ds h = doc_of-without_itself id ds
doc_of-with_doc_itself id (Some d) ds h = cond-true (same_id id d.id) _ _ (ap (same_id id) h ∙ same_id_itself id)

-- a document has the id that it is found by
pub doc_of_id : (id : DocId) (ds : Docs) → IfSome (doc_of id ds) (λ d. d.id ≡ id)
doc_of_id id [] = tt
doc_of_id id (d ∷ ds) = go (same_id id d.id) refl (doc_of_id id ds)
  where
    go : (b : Bool) → same_id id d.id ≡ b → IfSome (doc_of id ds) (λ x. x.id ≡ id) → IfSome (cond b (Some d) (doc_of id ds)) (λ x. x.id ≡ id)
    go true e ih = sym (same_id_is id d.id e)
    go false e ih = ih
