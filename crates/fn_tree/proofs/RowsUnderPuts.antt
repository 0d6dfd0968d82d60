-- Rows that are the same stay the same under the same puts.
use Rattle.std.proofs.Common.{◌≡◌, Bool, true, false, cond, List, [], ◌∷◌, Option, Some, None, refl, sym, ap, ◌∙◌}
use Rattle.std.specs.Prelude.{filter, not, ◌&&◌}
use Rattle.std.specs.Cmp.{IsTotalOrder}
use Rattle.std.proofs.lemmas.Cmp.{on_total}
use Rattle.std.proofs.lemmas.Bool.{cond_both}
use Rattle.cv_values.specs.declared.doc.Doc.{Doc}
use Rattle.cv_values.specs.declared.ids.DocId.{DocId}
use Rattle.cv_keys.specs.Documents.{place}
use Rattle.cv_keys.specs.Places.{PlaceInterval}
use Rattle.cv_keys.specs.declared.schema.Index.{Index}
use Rattle.fn_tree.specs.Documents.{Docs, same_id, without_id, with_doc}
use Rattle.fn_tree.specs.Rows.{placed_in, row_cmp, rows_by, is_within, rows_in}
use Rattle.fn_tree.specs.Run.{with_puts}
use Rattle.fn_tree.specs.declared.stop.Put.{Put}
use Rattle.fn_tree.proofs.Insertions.{InOrder, in_order_placed, filter-placed}
use Rattle.fn_tree.proofs.ItemOrders.{places_total}

cond-through : {A B : Type 0} (f : A → B) (b : Bool) (x y : A) → f (cond b x y) ≡ cond b (f x) (f y)
cond-through f true x y = refl
cond-through f false x y = refl

two_tests : {A : Type 0} (b c : Bool) (x y : A) → cond b (cond c x y) y ≡ cond c (cond b x y) y
two_tests true true x y = refl
two_tests true false x y = refl
two_tests false true x y = refl
two_tests false false x y = refl

pub rows_order : (index : Index) → IsTotalOrder (row_cmp index)
rows_order index = on_total (λ d. place d index) places_total

pub in_order_rows : (index : Index) (test : Doc → Bool) (ds : Docs) → InOrder (row_cmp index) (rows_by index test ds)
in_order_rows index test [] = tt
in_order_rows index test (d ∷ ds) =
    cond_both (test d) _ _ (InOrder (row_cmp index))
    (λ _. in_order_placed (rows_order index) d (rows_by index test ds) (in_order_rows index test ds))
    (λ _. in_order_rows index test ds)

-- a filter of the documents is one of the rows
pub rows-filter : (index : Index) (test keep : Doc → Bool) (ds : Docs) →
    rows_by index test (filter keep ds) ≡ filter keep (rows_by index test ds)
rows-filter index test keep [] = refl
rows-filter index test keep (d ∷ ds) =
    cond-through (rows_by index test) (keep d) (d ∷ filter keep ds) (filter keep ds)
    ∙ ap (λ r. cond (keep d) (cond (test d) (placed r) r) r) (rows-filter index test keep ds)
    ∙ two_tests (keep d) (test d) (placed (filter keep rest)) (filter keep rest)
    ∙ ap (λ r. cond (test d) r (filter keep rest)) (sym (filter-placed (rows_order index) keep d rest (in_order_rows index test ds)))
    ∙ sym (cond-through (filter keep) (test d) (placed rest) rest)
  where
    rest : List Doc
    rest = rows_by index test ds

    placed : List Doc → List Doc
    placed r = placed_in (row_cmp index) d r

rows-without : (index : Index) (test : Doc → Bool) (id : DocId) (d e : Docs) →
    rows_by index test d ≡ rows_by index test e → rows_by index test (without_id id d) ≡ rows_by index test (without_id id e)
rows-without index test id d e h =
    rows-filter index test (λ x. not (same_id id x.id)) d ∙ ap (without_id id) h ∙ sym (rows-filter index test (λ x. not (same_id id x.id)) e)

-- the rows with a document set depend on the rows before alone
pub rows-with_doc : (index : Index) (test : Doc → Bool) (id : DocId) (new : Option Doc) (d e : Docs) →
    rows_by index test d ≡ rows_by index test e → rows_by index test (with_doc id new d) ≡ rows_by index test (with_doc id new e)
rows-with_doc index test id None d e h = rows-without index test id d e h
rows-with_doc index test id (Some x) d e h =
    ap (λ r. cond (test x) (placed_in (row_cmp index) x r) r) (rows-without index test id d e h)

pub rows_in-with_puts : (index : Option Index) (i : PlaceInterval) (puts : List Put) (d e : Docs) →
    rows_in index i d ≡ rows_in index i e → rows_in index i (with_puts puts d) ≡ rows_in index i (with_puts puts e)
rows_in-with_puts None i puts d e h = refl
rows_in-with_puts (Some index) i [] d e h = h
rows_in-with_puts (Some index) i (p ∷ ps) d e h =
    rows_in-with_puts (Some index) i ps (with_doc p.id p.new d) (with_doc p.id p.new e)
    (rows-with_doc index (is_within index i) p.id p.new d e h)

rows_kept : (index : Index) (test keep : Doc → Bool) (d : Doc) (ds : Docs) →
    rows_by index test (filter keep (d ∷ ds)) ≡ cond (test d && keep d) (placed_in (row_cmp index) d (rows_by index test (filter keep ds))) (rows_by index test (filter keep ds))
rows_kept index test keep d ds =
    cond-through (rows_by index test) (keep d) (d ∷ filter keep ds) (filter keep ds)
    ∙ both_tests (keep d) (test d) (placed_in (row_cmp index) d rest) rest
  where
    rest : List Doc
    rest = rows_by index test (filter keep ds)

    both_tests : {A : Type 0} (b c : Bool) (x y : A) → cond b (cond c x y) y ≡ cond (c && b) x y
    both_tests true true x y = refl
    both_tests true false x y = refl
    both_tests false true x y = refl
    both_tests false false x y = refl

-- two pairs of tests that together say the same give the same rows
pub rows_alike : (index : Index) (test keep test' keep' : Doc → Bool) → ((d : Doc) → test d && keep d ≡ test' d && keep' d) → (ds : Docs) →
    filter keep (rows_by index test ds) ≡ filter keep' (rows_by index test' ds)
rows_alike index test keep test' keep' same ds =
    sym (rows-filter index test keep ds) ∙ go ds ∙ rows-filter index test' keep' ds
  where
    go : (ds : Docs) → rows_by index test (filter keep ds) ≡ rows_by index test' (filter keep' ds)
    go [] = refl
    go (d ∷ ds) = rows_kept index test keep d ds
        ∙ ap (λ r. cond (test d && keep d) (placed_in (row_cmp index) d r) r) (go ds)
        ∙ ap (λ b. cond b (placed_in (row_cmp index) d (rows_by index test' (filter keep' ds))) (rows_by index test' (filter keep' ds))) (same d)
        ∙ sym (rows_kept index test' keep' d ds)
