-- What a scan of an index reads: the rows of the documents at a timestamp.
use Rattle.std.proofs.Common.{◌≡◌, ℕ, zero, suc, ◌-◌, Bool, true, false, ◌&&◌, nat_lt, cond, List, [], ◌∷◌, map, reverse, Option, Some, None, refl, sym, ap, ◌∙◌}
use Rattle.std.specs.Prelude.{filter, ◌==◌, slice_get, option_map, option_and_then}
use Rattle.std.specs.List.{AllByRecursion, filter_map, cons_option}
use Rattle.cv_values.specs.declared.doc.Doc.{Doc}
use Rattle.cv_keys.specs.Documents.{place}
use Rattle.cv_keys.specs.Intervals.{in_bytes}
use Rattle.cv_keys.specs.KeyBytes.{is_between}
use Rattle.cv_keys.specs.KeyOrder.{EndInRange}
use Rattle.cv_keys.specs.Places.{PlaceInterval, lies_in}
use Rattle.cv_keys.specs.declared.interval.Interval.{Interval}
use Rattle.cv_keys.specs.declared.schema.Index.{Index}
use Rattle.cv_keys.proofs.ItemCmp.{intervals_hold_by_keys}
use Rattle.cv_docs.specs.Cut as docs_cut
use Rattle.cv_docs.specs.History.{Current, current, rows_in}
use Rattle.cv_docs.specs.Rows as docs_rows
use Rattle.cv_docs.specs.declared.entry.IndexEntry.{IndexEntry}
use Rattle.cv_docs.proofs.Later.{rows_by_newest}
use Rattle.fn_tree.specs.Documents.{Docs}
use Rattle.fn_tree.specs.Rows as tree_rows
use Rattle.fn_tree.specs.Scan.{in_direction}
use Rattle.fn_tree.proofs.RowsUnderPuts.{rows_alike}
use Rattle.cv_store.specs.Reads as reads
use Rattle.cv_core.specs.Changes.{doc_key}
use Rattle.cv_core.specs.Kept.{Keyed, shown, keyed}
use Rattle.cv_core.proofs.Places.{HasId, Fits}
use Rattle.cv_core.proofs.RowSteps.{all_rows, of_table, AllFit}

-- ---- both cuts are the same

pub same_cut : (rows size : ℕ) (ds : List Doc) → docs_cut.cut rows size ds ≡ reads.cut rows size ds
same_cut zero size ds = refl
same_cut (suc rows) size [] = refl
same_cut (suc rows) size (d ∷ ds) = ap (λ r. d ∷ cond (nat_lt size (docs_cut.doc_size d)) [] r) (same_cut rows (size - docs_cut.doc_size d) ds)

pub cut_nothing : (rows size : ℕ) → docs_cut.cut rows size [] ≡ []
cut_nothing zero size = refl
cut_nothing (suc rows) size = refl

pub same_direction : (desc : Bool) (ds : List Doc) → cond desc (reverse ds) ds ≡ in_direction desc ds
same_direction true ds = refl
same_direction false ds = refl

-- ---- the documents shown, by their keys

abbrev seconds : Keyed → List Doc
seconds l = map (λ p. p.1) l

abbrev between : Interval → List ℕ → Bool
between i k = is_between k i.lo i.hi

shown_rows : (docs : List Doc) (i : Interval) (m : Current) → rows_in docs i m ≡ seconds (filter (λ p. between i p.0) (shown docs m))
shown_rows docs i [] = refl
shown_rows docs i (p ∷ m) = go (between i p.0) refl (option_and_then (λ n. slice_get docs n) p.1) refl (shown_rows docs i m)
  where
    go : (b : Bool) → between i p.0 ≡ b → (o : Option Doc) → option_and_then (λ n. slice_get docs n) p.1 ≡ o → rows_in docs i m ≡ seconds (filter (λ p. between i p.0) (shown docs m))
        → filter_map (λ q. option_and_then (λ n. slice_get docs n) q.1) (cond b (p ∷ filter (λ q. between i q.0) m) (filter (λ q. between i q.0) m))
        ≡ seconds (filter (λ q. between i q.0) (cons_option (option_map (λ d. (p.0, d)) o) (shown docs m)))
    go true f None e ih = ap (λ o. cons_option o (rows_in docs i m)) e ∙ ih
    go true f (Some d) e ih =
        ap (λ o. cons_option o (rows_in docs i m)) e ∙ ap (λ r. d ∷ r) ih
        ∙ sym (ap (λ b. seconds (cond b ((p.0, d) ∷ filter (λ q. between i q.0) (shown docs m)) (filter (λ q. between i q.0) (shown docs m)))) f)
    go false f None e ih = ih
    go false f (Some d) e ih = ih ∙ sym (ap (λ b. seconds (cond b ((p.0, d) ∷ filter (λ q. between i q.0) (shown docs m)) (filter (λ q. between i q.0) (shown docs m)))) f)

module _ (x : Index) where
  keyed_rows : (i : Interval) (l : List Doc) → seconds (filter (λ p. between i p.0) (keyed x l)) ≡ filter (λ d. between i (doc_key x d)) l
  keyed_rows i [] = refl
  keyed_rows i (d ∷ l) = go (between i (doc_key x d)) (keyed_rows i l)
    where
      go : (b : Bool) → seconds (filter (λ p. between i p.0) (keyed x l)) ≡ filter (λ d. between i (doc_key x d)) l
          → seconds (cond b ((doc_key x d, d) ∷ filter (λ p. between i p.0) (keyed x l)) (filter (λ p. between i p.0) (keyed x l)))
          ≡ cond b (d ∷ filter (λ d. between i (doc_key x d)) l) (filter (λ d. between i (doc_key x d)) l)
      go true ih = ap (λ r. d ∷ r) ih
      go false ih = ih

  by_places : (i : PlaceInterval) (l : List Doc) → EndInRange i.lo → EndInRange i.hi → AllByRecursion (Fits x) l
      → filter (λ d. between (in_bytes i) (doc_key x d)) l ≡ filter (λ d. lies_in (place d x) i) l
  by_places i [] lo hi h = refl
  by_places i (d ∷ l) lo hi h =
      ap (λ b. cond b (d ∷ filter (λ d. between (in_bytes i) (doc_key x d)) l) (filter (λ d. between (in_bytes i) (doc_key x d)) l)) (sym (intervals_hold_by_keys (place d x) i h.0.place lo hi))
      ∙ ap (λ r. cond (lies_in (place d x) i) (d ∷ r) r) (by_places i l lo hi h.1)

and_true : (a : Bool) → a ≡ (a && true)
and_true true = refl
and_true false = refl

filter_true : (l : List Doc) → filter (λ d. true) l ≡ l
filter_true [] = refl
filter_true (d ∷ l) = ap (λ r. d ∷ r) (filter_true l)

-- the rows of an interval in an index are those of the documents
pub rows_read : (x : Index) (has : HasId x.fields) (docs : List Doc) (ts table : ℕ) (i : PlaceInterval) (es : List IndexEntry) (ds : Docs) → i.table ≡ table
    → EndInRange i.lo → EndInRange i.hi → AllFit x has table ds → shown docs (current ts es) ≡ keyed x (tree_rows.rows table x ds)
    → docs_rows.rows_at docs ts (in_bytes i) es ≡ tree_rows.rows_in (Some x) i ds
rows_read x has docs ts table i es ds t lo hi fit same =
    rows_by_newest docs ts (in_bytes i) es
    ∙ shown_rows docs (in_bytes i) (current ts es)
    ∙ ap (λ l. seconds (filter (λ p. between (in_bytes i) p.0) l)) same
    ∙ keyed_rows x (in_bytes i) (tree_rows.rows table x ds)
    ∙ by_places x i (tree_rows.rows table x ds) lo hi (all_rows x (of_table x has table) (Fits x) ds fit)
    ∙ rows_alike x (of_table x has table) (λ d. lies_in (place d x) i) (tree_rows.is_within x i) (λ d. true) alike ds
    ∙ filter_true (tree_rows.rows_by x (tree_rows.is_within x i) ds)
  where
    alike : (d : Doc) → (of_table x has table d && lies_in (place d x) i) ≡ (tree_rows.is_within x i d && true)
    alike d = ap (λ (n : ℕ). (d.id.table == n) && lies_in (place d x) i) (sym t) ∙ and_true (tree_rows.is_within x i d)

pub scanned_nothing : (docs : List Doc) (ts : ℕ) (i : Interval) (desc : Bool) (rows size : ℕ) → docs_cut.scanned docs ts i desc rows size [] ≡ []
scanned_nothing docs ts i true rows size = cut_nothing rows size
scanned_nothing docs ts i false rows size = cut_nothing rows size
