-- Rows don't depend on the order in which documents of different ids are set.
use Rattle.std.proofs.Common.{◌≡◌, Bool, true, false, not, cond, List, [], ◌∷◌, Option, Some, None, Less, Equal, Greater, refl, sym, ap, ◌∙◌, subst}
use Rattle.std.specs.Prelude.{IfSome}
use Rattle.std.specs.declared.cmp.Ordering.{Ordering}
use Rattle.std.specs.Ordering.{is_gt, ordering_reverse}
use Rattle.std.specs.Cmp.{IsTotalOrder}
use Rattle.std.proofs.lemmas.Cmp.{upto}
use Rattle.std.proofs.lemmas.Bool.{cond-true, cond-false}
use Rattle.cv_values.specs.IdLaws.{IsId}
use Rattle.cv_values.specs.declared.doc.Doc.{Doc}
use Rattle.cv_values.specs.declared.ids.DocId.{DocId}
use Rattle.cv_keys.specs.declared.schema.Index.{Index}
use Rattle.fn_tree.specs.Documents.{Docs, same_id, without_id, and_doc, with_doc}
use Rattle.fn_tree.specs.Rows.{placed_in, row_cmp, rows_by}
use Rattle.fn_tree.proofs.DocumentLemmas.{same_id_itself}
use Rattle.fn_tree.proofs.RowsUnderPuts.{rows_order}
use Rattle.cv_tx.proofs.PlacesApart.{TellsIds, ids_apart}

pub both_answers : {A : Type 0} (b : Bool) → b ≡ true → b ≡ false → A
both_answers true p q = cc
both_answers false p q = cc

-- ---- two documents put into a list

module _ {A : Type 0} {R : A → A → Ordering} (o : IsTotalOrder R) where
  -- y is above x where y is above something that x isn't above
  above_it : (x y z : A) → is_gt (R x z) ≡ false → is_gt (R y z) ≡ true → is_gt (R y x) ≡ true
  above_it x y z e f = go (is_gt (R y x)) refl
    where
      go : (b : Bool) → is_gt (R y x) ≡ b → b ≡ true
      go true g = refl
      go false g = both_answers (is_gt (R y z)) f (upto o y x z g e)

  placed-swap : (x y : A) (l : List A) → is_gt (R y x) ≡ not (is_gt (R x y)) → placed_in R x (placed_in R y l) ≡ placed_in R y (placed_in R x l)
  placed-swap x y [] apart = go (is_gt (R x y)) refl
    where
      go : (b : Bool) → is_gt (R x y) ≡ b → cond (is_gt (R x y)) (y ∷ x ∷ []) (x ∷ y ∷ []) ≡ cond (is_gt (R y x)) (x ∷ y ∷ []) (y ∷ x ∷ [])
      go true e = cond-true (is_gt (R x y)) _ _ e ∙ sym (cond-false (is_gt (R y x)) _ _ (apart ∙ ap not e))
      go false e = cond-false (is_gt (R x y)) _ _ e ∙ sym (cond-true (is_gt (R y x)) _ _ (apart ∙ ap not e))
  placed-swap x y (z ∷ l) apart = go (is_gt (R x z)) (is_gt (R y z)) refl refl (placed-swap x y l apart)
    where
      two : (d : Bool) → is_gt (R x y) ≡ d → (u v : List A) → cond (is_gt (R x y)) u v ≡ cond (is_gt (R y x)) v u
      two true e u v = cond-true (is_gt (R x y)) _ _ e ∙ sym (cond-false (is_gt (R y x)) _ _ (apart ∙ ap not e))
      two false e u v = cond-false (is_gt (R x y)) _ _ e ∙ sym (cond-true (is_gt (R y x)) _ _ (apart ∙ ap not e))

      go : (b c : Bool) → is_gt (R x z) ≡ b → is_gt (R y z) ≡ c → placed_in R x (placed_in R y l) ≡ placed_in R y (placed_in R x l)
          → placed_in R x (cond c (z ∷ placed_in R y l) (y ∷ z ∷ l)) ≡ placed_in R y (cond b (z ∷ placed_in R x l) (x ∷ z ∷ l))
      go true true e f ih = cond-true (is_gt (R x z)) _ _ e ∙ ap (λ r. z ∷ r) ih ∙ sym (cond-true (is_gt (R y z)) _ _ f)
      go false true e f ih =
          cond-false (is_gt (R x z)) _ _ e
          ∙ sym (cond-true (is_gt (R y x)) _ _ (above_it x y z e f) ∙ ap (λ r. x ∷ r) (cond-true (is_gt (R y z)) _ _ f))
      go true false e f ih =
          cond-true (is_gt (R x y)) _ _ (above_it y x z f e) ∙ ap (λ r. y ∷ r) (cond-true (is_gt (R x z)) _ _ e)
          ∙ sym (cond-false (is_gt (R y z)) _ _ f)
      go false false e f ih =
          ap (λ r. cond (is_gt (R x y)) (y ∷ r) (x ∷ y ∷ z ∷ l)) (cond-false (is_gt (R x z)) _ _ e)
          ∙ two (is_gt (R x y)) refl (y ∷ x ∷ z ∷ l) (x ∷ y ∷ z ∷ l)
          ∙ sym (ap (λ r. cond (is_gt (R y x)) (x ∷ r) (y ∷ x ∷ z ∷ l)) (cond-false (is_gt (R y z)) _ _ f))

-- ---- documents set

without-swap : (i j : DocId) (ds : Docs) → without_id i (without_id j ds) ≡ without_id j (without_id i ds)
without-swap i j [] = refl
without-swap i j (d ∷ ds) = go (same_id i d.id) (same_id j d.id) refl refl (without-swap i j ds)
  where
    go : (b c : Bool) → same_id i d.id ≡ b → same_id j d.id ≡ c → without_id i (without_id j ds) ≡ without_id j (without_id i ds)
        → without_id i (cond (not c) (d ∷ without_id j ds) (without_id j ds)) ≡ without_id j (cond (not b) (d ∷ without_id i ds) (without_id i ds))
    go true true e f ih = ih
    go true false e f ih = cond-false (not (same_id i d.id)) _ _ (ap not e) ∙ ih
    go false true e f ih = ih ∙ sym (cond-false (not (same_id j d.id)) _ _ (ap not f))
    go false false e f ih = cond-true (not (same_id i d.id)) _ _ (ap not e) ∙ ap (λ l. d ∷ l) ih ∙ sym (cond-true (not (same_id j d.id)) _ _ (ap not f))

-- without an id, where another one is set
without-other : (i j : DocId) (new : Option Doc) (ds : Docs) → same_id i j ≡ false → IfSome new (λ d. d.id ≡ j)
    → without_id i (with_doc j new ds) ≡ and_doc new (without_id i (without_id j ds))
without-other i j None ds e is = refl
without-other i j (Some y) ds e is = cond-true (not (same_id i y.id)) _ _ (ap not (ap (same_id i) is ∙ e))

without-twice : (i : DocId) (ds : Docs) → without_id i (without_id i ds) ≡ without_id i ds
without-twice i [] = refl
without-twice i (d ∷ ds) = go (same_id i d.id) refl (without-twice i ds)
  where
    go : (b : Bool) → same_id i d.id ≡ b → without_id i (without_id i ds) ≡ without_id i ds
        → without_id i (cond (not b) (d ∷ without_id i ds) (without_id i ds)) ≡ cond (not b) (d ∷ without_id i ds) (without_id i ds)
    go true e ih = ih
    go false e ih = cond-true (not (same_id i d.id)) _ _ (ap not e) ∙ ap (λ l. d ∷ l) ih

-- a document set again is set as if it hadn't been
pub set_again : (i : DocId) (new old : Option Doc) (ds : Docs) → IfSome old (λ d. d.id ≡ i) → with_doc i new (with_doc i old ds) ≡ with_doc i new ds
set_again i new None ds is = ap (and_doc new) (without-twice i ds)
set_again i new (Some y) ds is = ap (and_doc new) (cond-false (not (same_id i y.id)) _ _ (ap not (ap (same_id i) is ∙ same_id_itself i)) ∙ without-twice i ds)

turned_back : (r : Ordering) → (r ≡ Equal → ⊥) → is_gt (ordering_reverse r) ≡ not (is_gt r)
turned_back Less f = refl
turned_back Equal f = absurd (f refl)
turned_back Greater f = refl

module _ (index : Index) (test : Doc → Bool) (tells : TellsIds index) where
  rows_apart : (x y : Doc) → IsId x.id → IsId y.id → same_id x.id y.id ≡ false → is_gt (row_cmp index y x) ≡ not (is_gt (row_cmp index x y))
  rows_apart x y h k e =
      ap is_gt ((rows_order index).antisymm y x)
      ∙ turned_back (row_cmp index x y) (λ f. both_answers (same_id x.id y.id) (ap (same_id x.id) (sym (ids_apart index x y tells h k f)) ∙ same_id_itself x.id) e)

  rows_swap : (i j : DocId) (n m : Option Doc) (ds : Docs) → IsId i → IsId j → same_id i j ≡ false → IfSome n (λ d. d.id ≡ i) → IfSome m (λ d. d.id ≡ j)
      → rows_by index test (and_doc n (and_doc m ds)) ≡ rows_by index test (and_doc m (and_doc n ds))
  rows_swap i j None m ds h k e is js = refl
  rows_swap i j (Some x) None ds h k e is js = refl
  rows_swap i j (Some x) (Some y) ds h k e is js = go (test x) (test y)
    where
      r : List Doc
      r = rows_by index test ds

      apart : is_gt (row_cmp index y x) ≡ not (is_gt (row_cmp index x y))
      apart = rows_apart x y (subst IsId (sym is) h) (subst IsId (sym js) k) (ap (λ a. same_id a y.id) is ∙ ap (same_id i) js ∙ e)

      go : (b c : Bool) → cond b (placed_in (row_cmp index) x (cond c (placed_in (row_cmp index) y r) r)) (cond c (placed_in (row_cmp index) y r) r)
          ≡ cond c (placed_in (row_cmp index) y (cond b (placed_in (row_cmp index) x r) r)) (cond b (placed_in (row_cmp index) x r) r)
      go true true = placed-swap (rows_order index) x y r apart
      go true false = refl
      go false true = refl
      go false false = refl

  -- two documents of different ids are set in either order
  pub set_swap : (i j : DocId) (n m : Option Doc) (ds : Docs) → IsId i → IsId j → same_id i j ≡ false → same_id j i ≡ false → IfSome n (λ d. d.id ≡ i) → IfSome m (λ d. d.id ≡ j)
      → rows_by index test (with_doc i n (with_doc j m ds)) ≡ rows_by index test (with_doc j m (with_doc i n ds))
  set_swap i j n m ds h k e f is js =
      ap (λ l. rows_by index test (and_doc n l)) (without-other i j m ds e js)
      ∙ rows_swap i j n m (without_id i (without_id j ds)) h k e is js
      ∙ ap (λ l. rows_by index test (and_doc m (and_doc n l))) (without-swap i j ds)
      ∙ sym (ap (λ l. rows_by index test (and_doc m l)) (without-other j i n ds f is))
