-- The changes of a run's writes may be made in an index whose entries are all earlier.
use Rattle.std.proofs.Common.{◌≡◌, ℕ, Bool, true, false, nat_eq, cond, List, [], ◌∷◌, ◌++◌, Option, Some, None, refl, sym, ap, ◌∙◌, subst}
use Rattle.std.specs.Prelude.{IfSome, ◌==◌}
use Rattle.std.specs.Cmp.Lexicographic.{pointwise, nat_list_cmp_total, nat_list_eq_equiv}
use Rattle.std.specs.List.{AllByRecursion}
use Rattle.std.proofs.lemmas.Bool.{eq-eqb, eqb-true}
use Rattle.std.proofs.lemmas.Cmp.{tied_itself}
use Rattle.cv_values.specs.Order.{text_cmp}
use Rattle.cv_values.specs.declared.doc.Doc.{Doc}
use Rattle.cv_values.specs.declared.ids.DocId.{DocId}
use Rattle.cv_keys.specs.Documents.{index_at}
use Rattle.cv_keys.specs.declared.schema.Index.{Index}
use Rattle.cv_keys.specs.declared.schema.Schema.{Schema}
use Rattle.cv_keys.specs.declared.write.Write.{Write}
use Rattle.cv_docs.specs.Entries.{AllEarlier, inserted}
use Rattle.cv_docs.specs.History.{with_all, AreAllowed}
use Rattle.cv_docs.specs.declared.entry.IndexEntry.{IndexEntry}
use Rattle.cv_docs.proofs.Allowed.{earlier_inserted}
use Rattle.fn_tree.specs.Documents.{same_id}
use Rattle.fn_tree.proofs.DocumentLemmas.{same_id_itself, by_test}
use Rattle.cv_core.specs.Changes.{doc_key, gone, put, write_changes, next_version, changes_of, changes_at, entries_of}
use Rattle.cv_core.proofs.ChangesAt.{at-append, write_at, write_elsewhere}
use Rattle.cv_core.proofs.DistinctIds.{NotIn, DistinctIds}
use Rattle.cv_core.proofs.Places.{HasId, Fits, key_apart}
use Rattle.cv_core.proofs.Written.{entries-append, WriteIn}

pub with_all-append : (a b es : List IndexEntry) → with_all (a ++ b) es ≡ with_all b (with_all a es)
with_all-append [] b es = refl
with_all-append (x ∷ a) b es = with_all-append a b (inserted x es)

allowed_append : (a b es : List IndexEntry) → AreAllowed a es → AreAllowed b (with_all a es) → AreAllowed (a ++ b) es
allowed_append [] b es h k = k
allowed_append (x ∷ a) b es h k = (h.0, allowed_append a b (inserted x es) h.1 k)

-- the write's documents have its id
abbrev pub HasOwnId : Write → Type 0
HasOwnId w = IfSome w.old (λ d. d.id ≡ w.id) × IfSome w.new (λ d. d.id ≡ w.id)

module _ (x : Index) (has : HasId x.fields) (ts : ℕ) where
  -- each key of a document of this id has earlier entries only
  abbrev pub Open : List IndexEntry → DocId → Type 0
  Open es id = (d : Doc) → d.id ≡ id → Fits x d → AllEarlier (doc_key x d) ts es

  other_open : (d : Doc) (id other : DocId) (v : Option ℕ) (es : List IndexEntry) → d.id ≡ id → Fits x d → same_id id other ≡ false
      → Open es other → Open (inserted (record { key = doc_key x d; ts = ts; version = v }) es) other
  other_open d id other v es i f n h = λ e j g.
      earlier_inserted (doc_key x e) ts (record { key = doc_key x d; ts = ts; version = v }) es (λ s. absurd (differ e j g s)) (h e j g)
    where
      differ : (e : Doc) → e.id ≡ other → Fits x e → doc_key x d ≡ doc_key x e → ⊥
      differ e j g s =
          let ids : d.id ≡ e.id = key_apart x d e has f g (ap (text_cmp (doc_key x d)) (sym s) ∙ tied_itself nat_list_cmp_total (doc_key x d)) in
          let same : same_id id other ≡ true = ap (same_id id) (sym j ∙ sym ids ∙ i) ∙ same_id_itself id in
          let f : true ≡ false = sym same ∙ n in cc

  module _ (table index n : ℕ) (w : Write) (own : HasOwnId w) where
    abbrev row : Option Doc → Option Doc → List IndexEntry
    row old new = entries_of ts (gone table index x old new ++ put table index x n new)

    -- the changes of a write in its own index
    row_allowed : (old new : Option Doc) (es : List IndexEntry) → IfSome old (λ d. d.id ≡ w.id) → IfSome new (λ d. d.id ≡ w.id) → IfSome old (Fits x) → IfSome new (Fits x)
        → Open es w.id → AreAllowed (row old new) es
    row_allowed None None es i j f g h = tt
    row_allowed None (Some d) es i j f g h = (h d j g, tt)
    row_allowed (Some o) None es i j f g h = (h o i f, tt)
    row_allowed (Some o) (Some d) es i j f g h = go (pointwise nat_eq (doc_key x d) (doc_key x o)) refl
      where
        go : (b : Bool) → pointwise nat_eq (doc_key x d) (doc_key x o) ≡ b
            → AreAllowed (entries_of ts (cond b [] (record { table = table; index = index; key = doc_key x o; version = None } ∷ []) ++ put table index x n (Some d))) es
        go true e = (h d j g, tt)
        go false e = (h o i f, (earlier_inserted (doc_key x d) ts (record { key = doc_key x o; ts = ts; version = None }) es (λ s. absurd (differ s)) (h d j g), tt))
          where
            differ : doc_key x o ≡ doc_key x d → ⊥
            differ s = let f : true ≡ false = sym (nat_list_eq_equiv.refl (doc_key x d)) ∙ ap (pointwise nat_eq (doc_key x d)) (sym s) ∙ e in cc

    row_open : (old new : Option Doc) (es : List IndexEntry) (other : DocId) → IfSome old (λ d. d.id ≡ w.id) → IfSome new (λ d. d.id ≡ w.id) → IfSome old (Fits x) → IfSome new (Fits x)
        → same_id w.id other ≡ false → Open es other → Open (with_all (row old new) es) other
    row_open None None es other i j f g a h = h
    row_open None (Some d) es other i j f g a h = other_open d w.id other (Some n) es j g a h
    row_open (Some o) None es other i j f g a h = other_open o w.id other None es i f a h
    row_open (Some o) (Some d) es other i j f g a h = go (pointwise nat_eq (doc_key x d) (doc_key x o))
      where
        go : (b : Bool) → Open (with_all (entries_of ts (cond b [] (record { table = table; index = index; key = doc_key x o; version = None } ∷ []) ++ put table index x n (Some d))) es) other
        go true = other_open d w.id other (Some n) es j g a h
        go false = other_open d w.id other (Some n) (inserted (record { key = doc_key x o; ts = ts; version = None }) es) j g a (other_open o w.id other None es i f a h)

  module _ (schema : Schema) (table index : ℕ) (at : index_at schema table index ≡ Some x) where
    abbrev first : ℕ → Write → List IndexEntry
    first n w = entries_of ts (changes_at table index (write_changes schema n w))

    other_table : (w : Write) → (w.id.table == table) ≡ false → w.id.table ≡ table → ⊥
    other_table w q t = let f : true ≡ false = sym (eq-eqb w.id.table table t) ∙ q in cc

    write_allowed : (n : ℕ) (w : Write) (es : List IndexEntry) → HasOwnId w → WriteIn x table w → Open es w.id → AreAllowed (first n w) es
    write_allowed n w es own fits h = by_test (w.id.table == table)
        (λ q. let t = eqb-true w.id.table table q in
        subst (λ cs. AreAllowed (entries_of ts cs) es) (sym (write_at schema table index x n w at t)) (row_allowed table index n w own w.old w.new es own.0 own.1 (fits t).0 (fits t).1 h))
        (λ q. subst (λ cs. AreAllowed (entries_of ts cs) es) (sym (write_elsewhere schema table index n w (other_table w q))) tt)

    write_open : (n : ℕ) (w : Write) (es : List IndexEntry) (other : DocId) → HasOwnId w → WriteIn x table w → same_id w.id other ≡ false → Open es other → Open (with_all (first n w) es) other
    write_open n w es other own fits a h = by_test (w.id.table == table)
        (λ q. let t = eqb-true w.id.table table q in
        subst (λ cs. Open (with_all (entries_of ts cs) es) other) (sym (write_at schema table index x n w at t)) (row_open table index n w own w.old w.new es other own.0 own.1 (fits t).0 (fits t).1 a h))
        (λ q. subst (λ cs. Open (with_all (entries_of ts cs) es) other) (sym (write_elsewhere schema table index n w (other_table w q))) h)

    rest_open : (n : ℕ) (w : Write) (ws : List Write) (es : List IndexEntry) → HasOwnId w → WriteIn x table w → NotIn w.id ws
        → AllByRecursion (λ v. Open es v.id) ws → AllByRecursion (λ v. Open (with_all (first n w) es) v.id) ws
    rest_open n w [] es own fits a h = tt
    rest_open n w (v ∷ ws) es own fits a h = (write_open n w es v.id own fits a.0 h.0, rest_open n w ws es own fits a.1 h.1)

    pub writes_allowed : (n : ℕ) (ws : List Write) (es : List IndexEntry) → DistinctIds ws → AllByRecursion HasOwnId ws → AllByRecursion (WriteIn x table) ws
        → AllByRecursion (λ w. Open es w.id) ws → AreAllowed (entries_of ts (changes_at table index (changes_of schema n ws))) es
    writes_allowed n [] es d own fits h = tt
    writes_allowed n (w ∷ ws) es d own fits h =
        let rest = changes_of schema (next_version n w.new) ws in
        subst (λ cs. AreAllowed (entries_of ts cs) es) (sym (at-append table index (write_changes schema n w) rest))
        (subst (λ xs. AreAllowed xs es) (sym (entries-append ts (changes_at table index (write_changes schema n w)) (changes_at table index rest)))
        (allowed_append (first n w) (entries_of ts (changes_at table index rest)) es (write_allowed n w es own.0 fits.0 h.0)
        (writes_allowed (next_version n w.new) ws (with_all (first n w) es) d.1 own.1 fits.1 (rest_open n w ws es own.0 fits.0 d.0 h.1))))
