-- What the changes of all writes do to an index.
use Rattle.std.proofs.Common.{◌≡◌, ℕ, zero, suc, ◌+◌, Bool, true, false, nat_eq, cond, List, [], ◌∷◌, ◌++◌, drop, Option, Some, None, refl, sym, ap, ◌∙◌, subst, arith}
use Rattle.std.specs.Prelude.{slice_get, IfSome, ◌==◌}
use Rattle.std.specs.BTreeMap.{insert_entry}
use Rattle.std.specs.Cmp.Lexicographic.{pointwise}
use Rattle.std.specs.List.{AllByRecursion}
use Rattle.std.proofs.lemmas.Bool.{and_parts, eq-eqb, eqb-true}
use Rattle.cv_values.specs.Order.{text_cmp}
use Rattle.cv_values.specs.declared.doc.Doc.{Doc}
use Rattle.cv_values.specs.declared.ids.DocId.{DocId}
use Rattle.cv_keys.specs.Documents.{index_at}
use Rattle.cv_keys.specs.declared.schema.Index.{Index}
use Rattle.cv_keys.specs.declared.schema.Schema.{Schema}
use Rattle.cv_keys.specs.declared.write.Write.{Write}
use Rattle.cv_docs.specs.History.{Current, set_all}
use Rattle.cv_docs.specs.declared.entry.IndexEntry.{IndexEntry}
use Rattle.fn_tree.specs.Documents.{Docs, doc_of, with_doc, and_doc, applied}
use Rattle.fn_tree.specs.Rows.{rows}
use Rattle.fn_tree.proofs.DocumentLemmas.{by_test, doc_of_id}
use Rattle.fn_tree.proofs.TrueEntries.{TellTruly, Once, once_with}
use Rattle.cv_core.specs.Changes.{doc_key, gone, put, write_changes, next_version, changes_of, new_docs, changes_at, entry_of, entries_of}
use Rattle.cv_core.specs.Kept.{shown, keyed}
use Rattle.cv_core.specs.declared.change.Change.{Change}
use Rattle.cv_core.proofs.Ascending.{Ascending, dropped, shown_set, shown_ascending, ascending_set, placed_again}
use Rattle.cv_core.proofs.ChangesAt.{at-append, write_at, write_elsewhere}
use Rattle.cv_core.proofs.Places.{HasId, Fits}
use Rattle.cv_core.proofs.RowSteps.{moved, of_table, AllFit, rows_moved, rows_other, fit_with}

-- ---- lists of inserts

pub entries-append : (ts : ℕ) (a b : List Change) → entries_of ts (a ++ b) ≡ entries_of ts a ++ entries_of ts b
entries-append ts [] b = refl
entries-append ts (c ∷ a) b = ap (λ r. entry_of ts c ∷ r) (entries-append ts a b)

pub set_all-append : (a b : List IndexEntry) (m : Current) → set_all (a ++ b) m ≡ set_all b (set_all a m)
set_all-append [] b m = refl
set_all-append (x ∷ a) b m = set_all-append a b (insert_entry text_cmp m x.key x.version)

pub set_ascending : (xs : List IndexEntry) (m : Current) → Ascending m → Ascending (set_all xs m)
set_ascending [] m h = h
set_ascending (x ∷ xs) m h = set_ascending xs (insert_entry text_cmp m x.key x.version) (ascending_set x.key x.version m h)

pub same_bytes : (a b : List ℕ) → pointwise nat_eq a b ≡ true → a ≡ b
same_bytes [] [] e = refl
same_bytes [] (y ∷ b) e = cc
same_bytes (x ∷ a) [] e = cc
same_bytes (x ∷ a) (y ∷ b) e =
    let parts = and_parts (nat_eq x y) (pointwise nat_eq a b) e in
    let head : x ≡ y = eqb-true x y parts.0 in
    ap (λ (z : ℕ). z ∷ a) head ∙ ap (λ (r : List ℕ). y ∷ r) (same_bytes a b parts.1)

-- ---- the changes of one write move its row

module _ (docs : List Doc) (ts table index : ℕ) (x : Index) (n : ℕ) where
  pub shown_moved : (old new : Option Doc) (m : Current) → Ascending m → IfSome new (λ d. slice_get docs n ≡ Some d)
      → shown docs (set_all (entries_of ts (gone table index x old new ++ put table index x n new)) m) ≡ moved x old new (shown docs m)
  shown_moved None None m h v = refl
  shown_moved None (Some d) m h v = shown_set docs (doc_key x d) (Some n) (Some d) v m h
  shown_moved (Some o) None m h v = shown_set docs (doc_key x o) None None refl m h
  shown_moved (Some o) (Some d) m h v = go (pointwise nat_eq (doc_key x d) (doc_key x o)) refl
    where
      go : (b : Bool) → pointwise nat_eq (doc_key x d) (doc_key x o) ≡ b
          → shown docs (set_all (entries_of ts (cond b [] (record { table = table; index = index; key = doc_key x o; version = None } ∷ []) ++ put table index x n (Some d))) m)
          ≡ insert_entry text_cmp (dropped (doc_key x o) (shown docs m)) (doc_key x d) d
      go true e =
          shown_set docs (doc_key x d) (Some n) (Some d) v m h
          ∙ placed_again (doc_key x d) d (shown docs m) (shown_ascending docs m h)
          ∙ ap (λ k. insert_entry text_cmp (dropped k (shown docs m)) (doc_key x d) d) (same_bytes (doc_key x d) (doc_key x o) e)
      go false e =
          shown_set docs (doc_key x d) (Some n) (Some d) v (insert_entry text_cmp m (doc_key x o) None) (ascending_set (doc_key x o) None m h)
          ∙ ap (λ l. insert_entry text_cmp l (doc_key x d) d) (shown_set docs (doc_key x o) None None refl m h)

-- ---- all writes

-- the new documents stand under the numbers from n on
numbered : (docs : List Doc) (n : ℕ) (new : Option Doc) (ws : List Write) → drop n docs ≡ and_doc new (new_docs ws) → IfSome new (λ d. slice_get docs n ≡ Some d)
numbered docs n None ws e = tt
numbered docs n (Some d) ws e = first docs n e
  where
    first : (l : List Doc) (k : ℕ) → drop k l ≡ d ∷ new_docs ws → slice_get l k ≡ Some d
    first [] zero e = cc
    first [] (suc k) e = cc
    first (y ∷ l) zero e = let same : y ≡ d = cc in ap Some same
    first (y ∷ l) (suc k) e = first l k e

numbered_next : (docs : List Doc) (n : ℕ) (new : Option Doc) (ws : List Write) → drop n docs ≡ and_doc new (new_docs ws) → drop (next_version n new) docs ≡ new_docs ws
numbered_next docs n None ws e = e
numbered_next docs n (Some d) ws e = rest docs n (n + 1) (omega arith) e
  where
    rest : (l : List Doc) (k j : ℕ) → j ≡ suc k → drop k l ≡ d ∷ new_docs ws → drop j l ≡ new_docs ws
    rest [] zero j p e = cc
    rest [] (suc k) j p e = cc
    rest (y ∷ l) zero j p e = let one : j ≡ 1 = omega (arith, p) in let tails : l ≡ new_docs ws = cc in ap (λ (i : ℕ). drop i (y ∷ l)) one ∙ tails
    rest (y ∷ l) (suc k) zero p e = absurd (omega (arith, p))
    rest (y ∷ l) (suc k) (suc j) p e = rest l k j (omega (arith, p)) e

-- the write's documents fit the index, where the write is of its table
abbrev pub WriteIn : Index → (table : ℕ) → Write → Type 0
WriteIn x table w = w.id.table ≡ table → IfSome w.old (Fits x) × IfSome w.new (Fits x)

new_fits : (x : Index) (id : DocId) (new : Option Doc) → IfSome new (λ d. d.id ≡ id) → IfSome new (Fits x) → IfSome new (λ d. (d.id ≡ id) × Fits x d)
new_fits x id None h k = tt
new_fits x id (Some d) h k = (h, k)

module _ (schema : Schema) (docs : List Doc) (ts table index : ℕ) (x : Index) (has : HasId x.fields) (at : index_at schema table index ≡ Some x) where
  fit_new : (w : Write) → IfSome w.new (λ d. d.id ≡ w.id) → WriteIn x table w → IfSome w.new (λ d. of_table x has table d ≡ true → Fits x d)
  fit_new w h k = go w.new h (λ t. (k t).1)
    where
      go : (new : Option Doc) → IfSome new (λ d. d.id ≡ w.id) → (w.id.table ≡ table → IfSome new (Fits x)) → IfSome new (λ d. of_table x has table d ≡ true → Fits x d)
      go None h k = tt
      go (Some d) h k = λ q. k (ap (λ (j : DocId). j.table) (sym h) ∙ eqb-true d.id.table table q)

  write_shown : (n : ℕ) (w : Write) (ws : List Write) (m : Current) (ds : Docs) → drop n docs ≡ and_doc w.new (new_docs ws) → Ascending m
      → w.old ≡ doc_of w.id ds → IfSome w.new (λ d. d.id ≡ w.id) → WriteIn x table w → Once ds → AllFit x has table ds
      → shown docs m ≡ keyed x (rows table x ds)
      → shown docs (set_all (entries_of ts (changes_at table index (write_changes schema n w))) m) ≡ keyed x (rows table x (with_doc w.id w.new ds))
  write_shown n w ws m ds v h there own fits o fit same = by_test (w.id.table == table)
      (λ q. let t : w.id.table ≡ table = eqb-true w.id.table table q in
      ap (λ cs. shown docs (set_all (entries_of ts cs) m)) (write_at schema table index x n w at t)
      ∙ shown_moved docs ts table index x n w.old w.new m h (numbered docs n w.new ws v)
      ∙ ap (moved x w.old w.new) same
      ∙ sym (rows_moved x has table w.id w.old w.new ds t there (subst (λ d. IfSome d (λ e. e.id ≡ w.id)) (sym there) (doc_of_id w.id ds)) (new_fits x w.id w.new own (fits t).1) o fit))
      (λ q. let t : w.id.table ≡ table → ⊥ = other q in
      ap (λ cs. shown docs (set_all (entries_of ts cs) m)) (write_elsewhere schema table index n w t) ∙ same ∙ ap (keyed x) (sym (rows_other x has table w.id w.new ds t own)))
    where
      other : (w.id.table == table) ≡ false → w.id.table ≡ table → ⊥
      other q t = let f : true ≡ false = sym (eq-eqb w.id.table table t) ∙ q in cc

  -- the rows after all writes are those of the documents then
  pub writes_shown : (n : ℕ) (ws : List Write) (m : Current) (ds : Docs) → drop n docs ≡ new_docs ws → Ascending m
      → TellTruly ds ws → AllByRecursion (WriteIn x table) ws → Once ds → AllFit x has table ds
      → shown docs m ≡ keyed x (rows table x ds)
      → shown docs (set_all (entries_of ts (changes_at table index (changes_of schema n ws))) m) ≡ keyed x (rows table x (applied ws ds))
  writes_shown n [] m ds v h truth fits o fit same = same
  writes_shown n (w ∷ ws) m ds v h truth fits o fit same =
      let first = entries_of ts (changes_at table index (write_changes schema n w)) in
      let later = entries_of ts (changes_at table index (changes_of schema (next_version n w.new) ws)) in
      ap (λ cs. shown docs (set_all (entries_of ts cs) m)) (at-append table index (write_changes schema n w) (changes_of schema (next_version n w.new) ws))
      ∙ ap (λ xs. shown docs (set_all xs m)) (entries-append ts (changes_at table index (write_changes schema n w)) (changes_at table index (changes_of schema (next_version n w.new) ws)))
      ∙ ap (shown docs) (set_all-append first later m)
      ∙ writes_shown (next_version n w.new) ws (set_all first m) (with_doc w.id w.new ds) (numbered_next docs n w.new ws v) (set_ascending first m h) truth.2 fits.1
      (once_with w.id w.new ds truth.1 o) (fit_with x has table w.id w.new ds (fit_new w truth.1 fits.0) fit)
      (write_shown n w ws m ds v h truth.0 truth.1 fits.0 o fit same)
