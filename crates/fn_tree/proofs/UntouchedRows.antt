-- Rows that no later write touches stay as they are.
use Rattle.std.proofs.Common.{◌≡◌, ℕ, zero, suc, Bool, true, false, not, cond, List, [], ◌∷◌, take, drop, Option, Some, None, refl, sym, ap, ◌∙◌, subst}
use Rattle.std.specs.List.{AllByRecursion}
use Rattle.std.specs.Prelude.{IfSome, ◌&&◌, ◌||◌, ◌==◌}
use Rattle.std.proofs.lemmas.Bool.{cond-false}
use Rattle.cv_values.specs.declared.doc.Doc.{Doc}
use Rattle.cv_values.specs.declared.ids.DocId.{DocId}
use Rattle.cv_keys.specs.Documents.{index_at}
use Rattle.cv_keys.specs.Places.{PlaceInterval}
use Rattle.cv_keys.specs.Touch.{is_in, touches_places}
use Rattle.cv_keys.specs.declared.schema.Index.{Index}
use Rattle.cv_keys.specs.declared.schema.Schema.{Schema}
use Rattle.cv_keys.specs.declared.write.Write.{Write}
use Rattle.fn_tree.specs.CommitLaws.{TouchesNone, IsUntouched}
use Rattle.fn_tree.specs.Documents.{Docs, same_id, doc_of, without_id, with_doc, applied}
use Rattle.fn_tree.specs.History.{History, AreRuns, docs_after, docs_at}
use Rattle.fn_tree.specs.ReadLaws.{SameRows}
use Rattle.fn_tree.specs.Rows.{placed_in, row_cmp, rows_by, is_within, rows_in, rows_at}
use Rattle.fn_tree.specs.SyntaxTree.{ModuleTree}
use Rattle.fn_tree.proofs.DocumentLemmas.{same_id_is, doc_of_id}
use Rattle.fn_tree.proofs.TrueEntries.{TellTruly, entry_tells, Once, once_with, once_applied, once_after}

-- ---- one write

-- the document, if any, doesn't pass the test
abbrev Fails : (Doc → Bool) → Option Doc → Type 0
Fails test x = IfSome x (λ d. test d ≡ false)

-- without a document that doesn't pass, those that pass are the same
rows_gone : (index : Index) (test : Doc → Bool) (id : DocId) (ds : Docs) → Once ds → Fails test (doc_of id ds) →
    rows_by index test (without_id id ds) ≡ rows_by index test ds
rows_gone index test id [] h k = refl
rows_gone index test id (d ∷ ds) h k = go (same_id id d.id) refl (rows_gone index test id ds h.1) k
  where
    go : (b : Bool) → same_id id d.id ≡ b → (Fails test (doc_of id ds) → rows_by index test (without_id id ds) ≡ rows_by index test ds)
        → Fails test (cond b (Some d) (doc_of id ds))
        → rows_by index test (cond (not b) (d ∷ without_id id ds) (without_id id ds)) ≡ cond (test d) (placed_in (row_cmp index) d (rows_by index test ds)) (rows_by index test ds)
    go true s ih t =
        let none : doc_of id ds ≡ None = ap (λ j. doc_of j ds) (same_id_is id d.id s) ∙ h.0 in
        ih (subst (Fails test) (sym none) tt) ∙ sym (cond-false (test d) _ _ t)
    go false s ih t = ap (λ r. cond (test d) (placed_in (row_cmp index) d r) r) (ih t)

rows_same : (index : Index) (test : Doc → Bool) (id : DocId) (new : Option Doc) (ds : Docs) → Once ds → Fails test (doc_of id ds) → Fails test new →
    rows_by index test (with_doc id new ds) ≡ rows_by index test ds
rows_same index test id None ds h k n = rows_gone index test id ds h k
rows_same index test id (Some d) ds h k n = cond-false (test d) _ _ n ∙ rows_gone index test id ds h k

-- ---- writes that don't touch an interval

neither : (a b c : Bool) → a && (b || c) ≡ false → (a && b ≡ false) × (a && c ≡ false)
neither true true c e = cc
neither true false c e = (refl, e)
neither false b c e = (refl, refl)

-- none of the writes touches the interval
abbrev Misses : Schema → PlaceInterval → List Write → Type 0
Misses schema i ws = AllByRecursion (λ w. touches_places schema w i ≡ false) ws

module _ (schema : Schema) (i : PlaceInterval) (index : Index) (at : index_at schema i.table i.index ≡ Some index) where
  doc_out : (id : DocId) (x : Option Doc) → IfSome x (λ d. d.id ≡ id) → (id.table == i.table) && is_in (Some index) i x ≡ false → Fails (is_within index i) x
  doc_out id None is e = tt
  doc_out id (Some d) is e = subst (λ (j : DocId). (j.table == i.table) && is_in (Some index) i (Some d) ≡ false) (sym is) e

  both_out : (w : Write) → touches_places schema w i ≡ false →
      ((w.id.table == i.table) && is_in (Some index) i w.old ≡ false) × ((w.id.table == i.table) && is_in (Some index) i w.new ≡ false)
  both_out w e = neither (w.id.table == i.table) (is_in (Some index) i w.old) (is_in (Some index) i w.new)
      (subst (λ x. (w.id.table == i.table) && (is_in x i w.old || is_in x i w.new) ≡ false) at e)

  write_keeps : (w : Write) (ds : Docs) → Once ds → w.old ≡ doc_of w.id ds → IfSome w.new (λ d. d.id ≡ w.id) → touches_places schema w i ≡ false →
      rows_by index (is_within index i) (with_doc w.id w.new ds) ≡ rows_by index (is_within index i) ds
  write_keeps w ds o old new e =
      let out = both_out w e in
      rows_same index (is_within index i) w.id w.new ds o
      (doc_out w.id (doc_of w.id ds) (doc_of_id w.id ds) (subst (λ x. (w.id.table == i.table) && is_in (Some index) i x ≡ false) old out.0))
      (doc_out w.id w.new new out.1)

  writes_keep : (ws : List Write) (ds : Docs) → Once ds → TellTruly ds ws → Misses schema i ws →
      rows_by index (is_within index i) (applied ws ds) ≡ rows_by index (is_within index i) ds
  writes_keep [] ds o k e = refl
  writes_keep (w ∷ ws) ds o k e =
      writes_keep ws (with_doc w.id w.new ds) (once_with w.id w.new ds k.1 o) k.2 e.1 ∙ write_keeps w ds o k.0 k.1 e.0

  history_keeps : (m : ModuleTree) (h : History) (ds : Docs) → Once ds → AreRuns m ds h → AllByRecursion (λ x. Misses schema i x.writes) h →
      rows_by index (is_within index i) (docs_after h ds) ≡ rows_by index (is_within index i) ds
  history_keeps m [] ds o k e = refl
  history_keeps m (x ∷ h) ds o k e =
      let tells = entry_tells m ds x k.0 in
      history_keeps m h (applied x.writes ds) (once_applied x.writes ds o tells) k.1 e.1 ∙ writes_keep x.writes ds o tells e.0

-- ---- the intervals one by one

module _ (schema : Schema) (i : PlaceInterval) (intervals : List PlaceInterval) where
  first_missed : (ws : List Write) → AllByRecursion (TouchesNone schema (i ∷ intervals)) ws → Misses schema i ws
  first_missed [] e = tt
  first_missed (w ∷ ws) e = (e.0.0, first_missed ws e.1)

  others_missed : (ws : List Write) → AllByRecursion (TouchesNone schema (i ∷ intervals)) ws → AllByRecursion (TouchesNone schema intervals) ws
  others_missed [] e = tt
  others_missed (w ∷ ws) e = (e.0.1, others_missed ws e.1)

  first_untouched : (h : History) → AllByRecursion (λ x. AllByRecursion (TouchesNone schema (i ∷ intervals)) x.writes) h → AllByRecursion (λ x. Misses schema i x.writes) h
  first_untouched [] e = tt
  first_untouched (x ∷ h) e = (first_missed x.writes e.0, first_untouched h e.1)

  others_untouched : (h : History) → AllByRecursion (λ x. AllByRecursion (TouchesNone schema (i ∷ intervals)) x.writes) h
      → AllByRecursion (λ x. AllByRecursion (TouchesNone schema intervals) x.writes) h
  others_untouched [] e = tt
  others_untouched (x ∷ h) e = (others_missed x.writes e.0, others_untouched h e.1)

-- ---- a history from a timestamp on

docs_split : (h : History) (ts : ℕ) (ds : Docs) → docs_after h ds ≡ docs_after (drop ts h) (docs_after (take ts h) ds)
docs_split h zero ds = refl
docs_split [] (suc ts) ds = refl
docs_split (e ∷ h) (suc ts) ds = docs_split h ts (applied e.writes ds)

runs_split : (m : ModuleTree) (h : History) (ts : ℕ) (ds : Docs) → AreRuns m ds h → AreRuns m ds (take ts h) × AreRuns m (docs_after (take ts h) ds) (drop ts h)
runs_split m h zero ds k = (tt, k)
runs_split m [] (suc ts) ds k = (tt, tt)
runs_split m (e ∷ h) (suc ts) ds k = let r = runs_split m h ts (applied e.writes ds) k.1 in ((k.0, r.0), r.1)

-- the rows of an interval that no later entry touches are those at the end
rows_stay : (m : ModuleTree) (schema : Schema) (h : History) (ts : ℕ) (i : PlaceInterval) → AreRuns m [] h → AllByRecursion (λ x. Misses schema i x.writes) (drop ts h) →
    rows_at schema i (docs_at h ts) ≡ rows_at schema i (docs_after h [])
rows_stay m schema h ts i k e = go (index_at schema i.table i.index) refl
  where
    parts : AreRuns m [] (take ts h) × AreRuns m (docs_after (take ts h) []) (drop ts h)
    parts = runs_split m h ts [] k

    go : (x : Option Index) → index_at schema i.table i.index ≡ x → rows_in x i (docs_at h ts) ≡ rows_in x i (docs_after h [])
    go None at = refl
    go (Some index) at =
        sym (ap (rows_by index (is_within index i)) (docs_split h ts [])
        ∙ history_keeps schema i index at m (drop ts h) (docs_at h ts) (once_after m (take ts h) [] tt parts.0) parts.1 e)

pub untouched_rows : (m : ModuleTree) (schema : Schema) (h : History) (ts : ℕ) (intervals : List PlaceInterval) → AreRuns m [] h → IsUntouched schema intervals h ts →
    SameRows schema (docs_at h ts) (docs_after h []) intervals
untouched_rows m schema h ts [] k e = tt
untouched_rows m schema h ts (i ∷ intervals) k e = (
  rows_stay m schema h ts i k (first_untouched schema i intervals (drop ts h) e),
  untouched_rows m schema h ts intervals k (others_untouched schema i intervals (drop ts h) e),
)
