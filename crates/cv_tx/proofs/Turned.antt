-- The rows of documents with writes applied are the rows with the writes laid over them, in each direction.
use Rattle.std.proofs.Common.{◌≡◌, Bool, true, false, not, ◌&&◌, cond, List, [], ◌∷◌, ◌++◌, Option, Some, None, refl, sym, ap, ◌∙◌, append_assoc, append-nil}
use Rattle.std.specs.Prelude.{filter, reverse, IfSome, ◌==◌}
use Rattle.std.specs.declared.cmp.Ordering.{Ordering}
use Rattle.std.specs.Ordering.{is_gt}
use Rattle.std.specs.Cmp.{IsTotalOrder}
use Rattle.std.proofs.lemmas.Bool.{cond-true, cond-false}
use mathlib.Core.List.{reverse-cons}
use Rattle.cv_values.specs.declared.doc.Doc.{Doc}
use Rattle.cv_values.specs.declared.ids.DocId.{DocId}
use Rattle.cv_keys.specs.Documents.{place}
use Rattle.cv_keys.specs.Places.{PlaceInterval, lies_in}
use Rattle.cv_keys.specs.declared.schema.Index.{Index}
use Rattle.cv_keys.specs.declared.write.Write.{Write}
use Rattle.fn_tree.specs.Documents.{Docs, same_id, without_id, with_doc, applied}
use Rattle.fn_tree.specs.Rows.{placed_in, row_cmp, rows_by, is_within}
use Rattle.fn_tree.specs.Scan.{in_direction}
use Rattle.fn_tree.proofs.Consumed.{filter-reverse}
use Rattle.fn_tree.proofs.DocumentLemmas.{same_id_is}
use Rattle.fn_tree.proofs.Insertions.{IsLow, InOrder, low_down}
use Rattle.fn_tree.proofs.RowsUnderPuts.{rows_order, in_order_rows, rows-filter}
use Rattle.cv_tx.specs.Merged.{goes_behind, put_among, with_row, with_write, with_writes}
use Rattle.cv_tx.specs.Pending.{AreTrue}

-- ---- one document, upside down

-- before a last one that x doesn't go behind, x goes where it goes among the others
among_before : (behind : Doc → Doc → Bool) (x y : Doc) (zs : List Doc) → behind x y ≡ false → put_among behind x (zs ++ y ∷ []) ≡ put_among behind x zs ++ y ∷ []
among_before behind x y [] e = cond-false (behind x y) _ _ e
among_before behind x y (z ∷ zs) e = go (behind x z) (among_before behind x y zs e)
  where
    go : (b : Bool) → put_among behind x (zs ++ y ∷ []) ≡ put_among behind x zs ++ y ∷ []
        → cond b (z ∷ put_among behind x (zs ++ y ∷ [])) (x ∷ z ∷ (zs ++ y ∷ [])) ≡ cond b (z ∷ put_among behind x zs) (x ∷ z ∷ zs) ++ y ∷ []
    go true ih = ap (λ l. z ∷ l) ih
    go false ih = refl

-- x goes behind y upside down
abbrev back : (Doc → Doc → Ordering) → Doc → Doc → Bool
back R a b = not (is_gt (R a b))

-- behind all that it isn't above
among_low : (R : Doc → Doc → Ordering) (x : Doc) (ys more : List Doc) → IsLow R x ys → put_among (back R) x (reverse ys ++ more) ≡ reverse ys ++ put_among (back R) x more
among_low R x [] more h = refl
among_low R x (y ∷ ys) more h =
    ap (λ l. put_among (back R) x (l ++ more)) (reverse-cons y ys)
    ∙ ap (put_among (back R) x) (append_assoc (reverse ys) (y ∷ []) more)
    ∙ among_low R x ys (y ∷ more) h.1
    ∙ ap (λ l. reverse ys ++ l) (cond-true (back R x y) _ _ (ap not h.0))
    ∙ sym (append_assoc (reverse ys) (y ∷ []) (put_among (back R) x more))
    ∙ ap (λ l. l ++ put_among (back R) x more) (sym (reverse-cons y ys))

reverse-placed : {R : Doc → Doc → Ordering} (o : IsTotalOrder R) (x : Doc) (ys : List Doc) → InOrder R ys → reverse (placed_in R x ys) ≡ put_among (back R) x (reverse ys)
reverse-placed o x [] h = refl
reverse-placed {R = R} o x (y ∷ ys) h = go (is_gt (R x y)) refl (reverse-placed o x ys h.1)
  where
    go : (b : Bool) → is_gt (R x y) ≡ b → reverse (placed_in R x ys) ≡ put_among (back R) x (reverse ys)
        → reverse (cond b (y ∷ placed_in R x ys) (x ∷ y ∷ ys)) ≡ put_among (back R) x (reverse (y ∷ ys))
    go true e ih =
        reverse-cons y (placed_in R x ys) ∙ ap (λ l. l ++ y ∷ []) ih
        ∙ sym (among_before (back R) x y (reverse ys) (ap not e)) ∙ ap (put_among (back R) x) (sym (reverse-cons y ys))
    go false e ih =
        reverse-cons x (y ∷ ys) ∙ sym (among_low R x (y ∷ ys) [] (e, low_down o x y ys e h.0))
        ∙ ap (put_among (back R) x) (append-nil (reverse (y ∷ ys)))

placed-among : (index : Index) (x : Doc) (ys : List Doc) → placed_in (row_cmp index) x ys ≡ put_among (goes_behind index false) x ys
placed-among index x [] = refl
placed-among index x (y ∷ ys) = ap (λ l. cond (is_gt (row_cmp index x y)) (y ∷ l) (x ∷ y ∷ ys)) (placed-among index x ys)

direction-placed : (index : Index) (desc : Bool) (x : Doc) (ys : List Doc) → InOrder (row_cmp index) ys
    → in_direction desc (placed_in (row_cmp index) x ys) ≡ put_among (goes_behind index desc) x (in_direction desc ys)
direction-placed index false x ys h = placed-among index x ys
direction-placed index true x ys h = reverse-placed (rows_order index) x ys h

pub direction-filter : (desc : Bool) (f : Doc → Bool) (xs : List Doc) → in_direction desc (filter f xs) ≡ filter f (in_direction desc xs)
direction-filter false f xs = refl
direction-filter true f xs = sym (filter-reverse f xs)

-- ---- one write

-- without a document that doesn't pass, those that pass are the same
rows_gone : (index : Index) (test : Doc → Bool) (id : DocId) (ds : Docs) → ((d : Doc) → same_id id d.id ≡ true → test d ≡ false)
    → rows_by index test (without_id id ds) ≡ rows_by index test ds
rows_gone index test id [] h = refl
rows_gone index test id (d ∷ ds) h = go (same_id id d.id) refl (rows_gone index test id ds h)
  where
    go : (b : Bool) → same_id id d.id ≡ b → rows_by index test (without_id id ds) ≡ rows_by index test ds
        → rows_by index test (cond (not b) (d ∷ without_id id ds) (without_id id ds)) ≡ cond (test d) (placed_in (row_cmp index) d (rows_by index test ds)) (rows_by index test ds)
    go true s ih = ih ∙ sym (cond-false (test d) _ _ (h d s))
    go false s ih = ap (λ r. cond (test d) (placed_in (row_cmp index) d r) r) ih

module _ (index : Index) (i : PlaceInterval) (desc : Bool) where
  -- the rows of documents in the interval, in the direction
  abbrev pub turned_rows : Docs → List Doc
  turned_rows ds = in_direction desc (rows_by index (is_within index i) ds)

  turned-without : (id : DocId) (ds : Docs) → turned_rows (without_id id ds) ≡ without_id id (turned_rows ds)
  turned-without id ds =
      ap (in_direction desc) (rows-filter index (is_within index i) (λ d. not (same_id id d.id)) ds)
      ∙ direction-filter desc (λ d. not (same_id id d.id)) (rows_by index (is_within index i) ds)

  turned-row : (id : DocId) (x : Doc) (ds : Docs) → turned_rows (x ∷ without_id id ds) ≡ with_row index i desc (Some x) (turned_rows (without_id id ds))
  turned-row id x ds = go (is_within index i x)
    where
      r : List Doc
      r = rows_by index (is_within index i) (without_id id ds)

      go : (b : Bool) → in_direction desc (cond b (placed_in (row_cmp index) x r) r) ≡ cond b (put_among (goes_behind index desc) x (in_direction desc r)) (in_direction desc r)
      go true = direction-placed index desc x r (in_order_rows index (is_within index i) (without_id id ds))
      go false = refl

  -- a document of another table isn't within
  outside : (id : DocId) (d : Doc) → id.table == i.table ≡ false → id ≡ d.id → is_within index i d ≡ false
  outside id d e s = ap (λ (j : DocId). (j.table == i.table) && lies_in (place d index) i) (sym s) ∙ ap (λ b. b && lies_in (place d index) i) e

  pub turned-write : (w : Write) (ds : Docs) → IfSome w.new (λ d. d.id ≡ w.id) → turned_rows (with_doc w.id w.new ds) ≡ with_write index i desc w (turned_rows ds)
  turned-write w ds is = go (w.id.table == i.table) refl w.new is
    where
      gone : w.id.table == i.table ≡ false → rows_by index (is_within index i) (without_id w.id ds) ≡ rows_by index (is_within index i) ds
      gone e = rows_gone index (is_within index i) w.id ds (λ d s. outside w.id d e (same_id_is w.id d.id s))

      go : (b : Bool) → w.id.table == i.table ≡ b → (new : Option Doc) → IfSome new (λ d. d.id ≡ w.id)
          → turned_rows (with_doc w.id new ds) ≡ cond b (with_row index i desc new (without_id w.id (turned_rows ds))) (turned_rows ds)
      go true e None k = turned-without w.id ds
      go true e (Some x) k = turned-row w.id x ds ∙ ap (with_row index i desc (Some x)) (turned-without w.id ds)
      go false e None k = ap (in_direction desc) (gone e)
      go false e (Some x) k = ap (in_direction desc) (cond-false (is_within index i x) _ _ (outside w.id x e (sym k)) ∙ gone e)

  pub turned-writes : (ws : List Write) (ds : Docs) → AreTrue ds ws → turned_rows (applied ws ds) ≡ with_writes index i desc ws (turned_rows ds)
  turned-writes [] ds k = refl
  turned-writes (w ∷ ws) ds k = turned-writes ws (with_doc w.id w.new ds) k.2 ∙ ap (with_writes index i desc ws) (turned-write w ds k.1)
