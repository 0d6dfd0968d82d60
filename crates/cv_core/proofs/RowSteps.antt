-- What a write does to the rows of an index, under their keys.
use Rattle.std.proofs.Common.{◌≡◌, ℕ, Bool, true, false, not, cond, List, [], ◌∷◌, Option, Some, None, refl, sym, ap, ◌∙◌, subst}
use Rattle.std.specs.Prelude.{filter, ◌==◌, IfSome}
use Rattle.std.specs.BTreeMap.{insert_entry}
use Rattle.std.specs.List.{AllByRecursion}
use Rattle.std.specs.Ordering.{is_eq, is_gt, match_ordering}
use Rattle.std.specs.declared.cmp.Ordering.{Ordering}
use Rattle.std.specs.declared.cmp.Ordering.TheVariants.{Less, Equal, Greater}
use Rattle.std.specs.Cmp.Lexicographic.{nat_list_cmp_total}
use Rattle.std.proofs.lemmas.Bool.{cond_both, eq-eqb, eqb-true}
use Rattle.std.proofs.lemmas.Cmp.{tied_itself}
use Rattle.cv_values.specs.Order.{text_cmp}
use Rattle.cv_values.specs.declared.doc.Doc.{Doc}
use Rattle.cv_values.specs.declared.ids.DocId.{DocId}
use Rattle.cv_keys.specs.declared.schema.Index.{Index}
use Rattle.fn_tree.specs.Documents.{Docs, same_id, doc_of, without_id, with_doc}
use Rattle.fn_tree.specs.Rows.{placed_in, row_cmp, rows_by, rows}
use Rattle.fn_tree.proofs.DocumentLemmas.{same_id_is, same_id_itself, by_test, some_same}
use Rattle.fn_tree.proofs.RowsUnderPuts.{rows-filter}
use Rattle.fn_tree.proofs.TrueEntries.{Once}
use Rattle.cv_core.specs.Changes.{doc_key}
use Rattle.cv_core.specs.Kept.{Keyed, keyed}
use Rattle.cv_core.proofs.Ascending.{dropped}
use Rattle.cv_core.proofs.Places.{HasId, Fits, key_order, key_apart}

-- ---- all rows come from the documents

all_placed : (R : Doc → Doc → Ordering) (P : Doc → Type 0) (d : Doc) (l : List Doc) → P d → AllByRecursion P l → AllByRecursion P (placed_in R d l)
all_placed R P d [] h k = (h, tt)
all_placed R P d (y ∷ l) h k = cond_both (is_gt (R d y)) _ _ (AllByRecursion P) (λ _. (k.0, all_placed R P d l h k.1)) (λ _. (h, k))

pub all_rows : (x : Index) (t : Doc → Bool) (P : Doc → Type 0) (ds : Docs) → AllByRecursion (λ d. t d ≡ true → P d) ds → AllByRecursion P (rows_by x t ds)
all_rows x t P [] h = tt
all_rows x t P (d ∷ ds) h = go (t d) refl (all_rows x t P ds h.1)
  where
    go : (b : Bool) → t d ≡ b → AllByRecursion P (rows_by x t ds) → AllByRecursion P (cond b (placed_in (row_cmp x) d (rows_by x t ds)) (rows_by x t ds))
    go true e ih = all_placed (row_cmp x) P d (rows_by x t ds) (h.0 e) ih
    go false e ih = ih

all_filtered : (keep : Doc → Bool) (P : Doc → Type 0) (l : List Doc) → AllByRecursion P l → AllByRecursion (λ d. P d × (keep d ≡ true)) (filter keep l)
all_filtered keep P [] h = tt
all_filtered keep P (d ∷ l) h = go (keep d) refl (all_filtered keep P l h.1)
  where
    go : (b : Bool) → keep d ≡ b → AllByRecursion (λ y. P y × (keep y ≡ true)) (filter keep l) → AllByRecursion (λ y. P y × (keep y ≡ true)) (cond b (d ∷ filter keep l) (filter keep l))
    go true e ih = ((h.0, e), ih)
    go false e ih = ih

-- ---- under keys

module _ (x : Index) where
  -- a row is put in where its key is
  abbrev Apart : Doc → Doc → Type 0
  Apart d y = (text_cmp (doc_key x d) (doc_key x y) ≡ row_cmp x d y) × (row_cmp x d y ≡ Equal → ⊥)

  placed_keyed : (d : Doc) (l : List Doc) → AllByRecursion (Apart d) l → keyed x (placed_in (row_cmp x) d l) ≡ insert_entry text_cmp (keyed x l) (doc_key x d) d
  placed_keyed d [] h = refl
  placed_keyed d (y ∷ l) h = go (row_cmp x d y) refl (placed_keyed d l h.1)
    where
      go : (c : Ordering) → row_cmp x d y ≡ c → keyed x (placed_in (row_cmp x) d l) ≡ insert_entry text_cmp (keyed x l) (doc_key x d) d
          → keyed x (cond (is_gt c) (y ∷ placed_in (row_cmp x) d l) (d ∷ y ∷ l)) ≡ insert_entry text_cmp (keyed x (y ∷ l)) (doc_key x d) d
      go Less e ih = sym (ap (λ o. match_ordering o ((doc_key x d, d) ∷ keyed x (y ∷ l)) ((doc_key x y, d) ∷ keyed x l) ((doc_key x y, y) ∷ insert_entry text_cmp (keyed x l) (doc_key x d) d)) (h.0.0 ∙ e))
      go Equal e ih = absurd (h.0.1 e)
      go Greater e ih =
          ap (λ r. (doc_key x y, y) ∷ r) ih
          ∙ sym (ap (λ o. match_ordering o ((doc_key x d, d) ∷ keyed x (y ∷ l)) ((doc_key x y, d) ∷ keyed x l) ((doc_key x y, y) ∷ insert_entry text_cmp (keyed x l) (doc_key x d) d)) (h.0.0 ∙ e))

  -- those of an id are those of a key
  filtered_keyed : (id : DocId) (k : List ℕ) (l : List Doc) → AllByRecursion (λ y. same_id id y.id ≡ is_eq (text_cmp k (doc_key x y))) l
      → keyed x (filter (λ y. not (same_id id y.id)) l) ≡ dropped k (keyed x l)
  filtered_keyed id k [] h = refl
  filtered_keyed id k (y ∷ l) h =
      ap (λ b. keyed x (cond (not b) (y ∷ filter (λ y. not (same_id id y.id)) l) (filter (λ y. not (same_id id y.id)) l))) h.0
      ∙ go (is_eq (text_cmp k (doc_key x y))) (filtered_keyed id k l h.1)
    where
      go : (b : Bool) → keyed x (filter (λ y. not (same_id id y.id)) l) ≡ dropped k (keyed x l)
          → keyed x (cond (not b) (y ∷ filter (λ y. not (same_id id y.id)) l) (filter (λ y. not (same_id id y.id)) l)) ≡ cond (not b) ((doc_key x y, y) ∷ dropped k (keyed x l)) (dropped k (keyed x l))
      go true ih = ih
      go false ih = ap (λ r. (doc_key x y, y) ∷ r) ih

-- ---- the document of an id

none_there : (id : DocId) (ds : Docs) → doc_of id ds ≡ None → without_id id ds ≡ ds
none_there id [] e = refl
none_there id (d ∷ ds) e = go (same_id id d.id) refl (none_there id ds) e
  where
    go : (b : Bool) → same_id id d.id ≡ b → (doc_of id ds ≡ None → without_id id ds ≡ ds) → cond b (Some d) (doc_of id ds) ≡ None
        → cond (not b) (d ∷ without_id id ds) (without_id id ds) ≡ d ∷ ds
    go true s ih q = cc
    go false s ih q = ap (λ r. d ∷ r) (ih q)

-- no other document has it
abbrev IsOnly : DocId → Doc → Doc → Type 0
IsOnly id old y = same_id id y.id ≡ true → y ≡ old

only_none : (id : DocId) (old : Doc) (ds : Docs) → doc_of id ds ≡ None → AllByRecursion (IsOnly id old) ds
only_none id old [] e = tt
only_none id old (d ∷ ds) e = go (same_id id d.id) refl (only_none id old ds) e
  where
    go : (b : Bool) → same_id id d.id ≡ b → (doc_of id ds ≡ None → AllByRecursion (IsOnly id old) ds) → cond b (Some d) (doc_of id ds) ≡ None → AllByRecursion (IsOnly id old) (d ∷ ds)
    go true s ih q = cc
    go false s ih q = ((λ t. absurd (both s t)), ih q)
      where
        both : same_id id d.id ≡ false → same_id id d.id ≡ true → ⊥
        both p t = let f : false ≡ true = sym p ∙ t in cc

only_one : (id : DocId) (old : Doc) (ds : Docs) → Once ds → doc_of id ds ≡ Some old → AllByRecursion (IsOnly id old) ds
only_one id old [] o e = cc
only_one id old (d ∷ ds) o e = go (same_id id d.id) refl (only_one id old ds o.1) e
  where
    go : (b : Bool) → same_id id d.id ≡ b → (doc_of id ds ≡ Some old → AllByRecursion (IsOnly id old) ds) → cond b (Some d) (doc_of id ds) ≡ Some old → AllByRecursion (IsOnly id old) (d ∷ ds)
    go true s ih q =
        let same : d ≡ old = some_same d old q in
        let none : doc_of id ds ≡ None = ap (λ j. doc_of j ds) (same_id_is id d.id s) ∙ o.0 in
        ((λ t. same), only_none id old ds none)
    go false s ih q = ((λ t. absurd (both s t)), ih q)
      where
        both : same_id id d.id ≡ false → same_id id d.id ≡ true → ⊥
        both p t = let f : false ≡ true = sym p ∙ t in cc

-- ---- one write

all_both : (P Q : Doc → Type 0) (ds : Docs) → AllByRecursion P ds → AllByRecursion Q ds → AllByRecursion (λ d. P d × Q d) ds
all_both P Q [] h k = tt
all_both P Q (d ∷ ds) h k = ((h.0, k.0), all_both P Q ds h.1 k.1)

all_map : (P Q : Doc → Type 0) (f : (d : Doc) → P d → Q d) (ds : Docs) → AllByRecursion P ds → AllByRecursion Q ds
all_map P Q f [] h = tt
all_map P Q f (d ∷ ds) h = (f d h.0, all_map P Q f ds h.1)

found_all : (P : Doc → Type 0) (id : DocId) (old : Doc) (ds : Docs) → AllByRecursion P ds → doc_of id ds ≡ Some old → P old
found_all P id old [] h e = cc
found_all P id old (d ∷ ds) h e = go (same_id id d.id) (found_all P id old ds h.1) e
  where
    go : (b : Bool) → (doc_of id ds ≡ Some old → P old) → cond b (Some d) (doc_of id ds) ≡ Some old → P old
    go true ih q = subst P (some_same d old q) h.0
    go false ih q = ih q

filter_every : (keep : Doc → Bool) (l : List Doc) → AllByRecursion (λ d. keep d ≡ true) l → filter keep l ≡ l
filter_every keep [] h = refl
filter_every keep (d ∷ l) h = ap (λ b. cond b (d ∷ filter keep l) (filter keep l)) h.0 ∙ ap (λ r. d ∷ r) (filter_every keep l h.1)

not_both : {A : Type 0} (b : Bool) → b ≡ true → b ≡ false → A
not_both true p q = cc
not_both false p q = cc

not_false : (b : Bool) → not b ≡ true → b ≡ false
not_false true e = cc
not_false false e = refl

not_equal : (o : Ordering) → (o ≡ Equal → ⊥) → is_eq o ≡ false
not_equal Less h = refl
not_equal Equal h = absurd (h refl)
not_equal Greater h = refl

-- the rows under their keys, where a document takes the place of another, or of none
abbrev pub moved : Index → (old new : Option Doc) → Keyed → Keyed
moved x None None l = l
moved x None (Some d) l = insert_entry text_cmp l (doc_key x d) d
moved x (Some o) None l = dropped (doc_key x o) l
moved x (Some o) (Some d) l = insert_entry text_cmp (dropped (doc_key x o) l) (doc_key x d) d

module _ (x : Index) (has : HasId x.fields) (table : ℕ) where
  abbrev pub of_table : Doc → Bool
  of_table d = d.id.table == table

  abbrev pub AllFit : Docs → Type 0
  AllFit ds = AllByRecursion (λ d. of_table d ≡ true → Fits x d) ds

  is_of_table : (id : DocId) (d : Doc) → id.table ≡ table → d.id ≡ id → of_table d ≡ true
  is_of_table id d t e = eq-eqb d.id.table table (ap (λ (j : DocId). j.table) e ∙ t)

  -- without the document of an id
  without_keyed : (id : DocId) (old : Doc) (ds : Docs) → id.table ≡ table → old.id ≡ id → Once ds → AllFit ds → doc_of id ds ≡ Some old
      → keyed x (rows table x (without_id id ds)) ≡ dropped (doc_key x old) (keyed x (rows table x ds))
  without_keyed id old ds t e o fit there =
      ap (keyed x) (rows-filter x of_table (λ y. not (same_id id y.id)) ds)
      ∙ filtered_keyed x id (doc_key x old) (rows table x ds) (all_rows x of_table Same ds
      (all_map (λ y. (of_table y ≡ true → Fits x y) × IsOnly id old y) (λ y. of_table y ≡ true → Same y) same ds (all_both (λ y. of_table y ≡ true → Fits x y) (IsOnly id old) ds fit (only_one id old ds o there))))
    where
      Same : Doc → Type 0
      Same y = same_id id y.id ≡ is_eq (text_cmp (doc_key x old) (doc_key x y))

      old_fits : Fits x old
      old_fits = found_all (λ d. of_table d ≡ true → Fits x d) id old ds fit there (is_of_table id old t e)

      same : (y : Doc) → (of_table y ≡ true → Fits x y) × (same_id id y.id ≡ true → y ≡ old) → of_table y ≡ true → same_id id y.id ≡ is_eq (text_cmp (doc_key x old) (doc_key x y))
      same y h q = by_test (same_id id y.id)
          (λ s. s ∙ sym (ap (λ z. is_eq (text_cmp (doc_key x old) (doc_key x z))) (h.1 s) ∙ ap is_eq (tied_itself nat_list_cmp_total (doc_key x old))))
          (λ s. s ∙ sym (not_equal (text_cmp (doc_key x old) (doc_key x y)) (λ k.
          let ids : old.id ≡ y.id = key_apart x old y has old_fits (h.0 q) k in
          not_both (same_id id y.id) (ap (same_id id) (sym ids ∙ e) ∙ same_id_itself id) s)))

  -- with a new document of an id
  with_keyed : (id : DocId) (d : Doc) (ds : Docs) → id.table ≡ table → d.id ≡ id → Fits x d → AllFit ds
      → keyed x (rows table x (with_doc id (Some d) ds)) ≡ insert_entry text_cmp (keyed x (rows table x (without_id id ds))) (doc_key x d) d
  with_keyed id d ds t e f fit =
      ap (λ b. keyed x (cond b (placed_in (row_cmp x) d (rows table x (without_id id ds))) (rows table x (without_id id ds)))) (is_of_table id d t e)
      ∙ placed_keyed x d (rows table x (without_id id ds))
      (subst (AllByRecursion (Apart x d)) (sym (rows-filter x of_table (λ y. not (same_id id y.id)) ds))
      (all_map (λ y. Fits x y × (not (same_id id y.id) ≡ true)) (Apart x d) apart (filter (λ y. not (same_id id y.id)) (rows table x ds)) (all_filtered (λ y. not (same_id id y.id)) (Fits x) (rows table x ds) (all_rows x of_table (Fits x) ds fit))))
    where
      apart : (y : Doc) → Fits x y × (not (same_id id y.id) ≡ true) → Apart x d y
      apart y h = (
        key_order x d y f h.0,
        (λ k.
            let ids : d.id ≡ y.id = key_apart x d y has f h.0 (key_order x d y f h.0 ∙ k) in
            not_both (same_id id y.id) (ap (same_id id) (sym ids ∙ e) ∙ same_id_itself id) (not_false (same_id id y.id) h.1)),
      )

  -- what a write does to them
  pub rows_moved : (id : DocId) (old new : Option Doc) (ds : Docs) → id.table ≡ table → old ≡ doc_of id ds → IfSome old (λ d. d.id ≡ id) → IfSome new (λ d. (d.id ≡ id) × Fits x d)
      → Once ds → AllFit ds → keyed x (rows table x (with_doc id new ds)) ≡ moved x old new (keyed x (rows table x ds))
  rows_moved id None None ds t e is h o fit = ap (λ l. keyed x (rows table x l)) (none_there id ds (sym e))
  rows_moved id None (Some d) ds t e is h o fit =
      with_keyed id d ds t h.0 h.1 fit ∙ ap (λ l. insert_entry text_cmp (keyed x (rows table x l)) (doc_key x d) d) (none_there id ds (sym e))
  rows_moved id (Some old) None ds t e is h o fit = without_keyed id old ds t is o fit (sym e)
  rows_moved id (Some old) (Some d) ds t e is h o fit =
      with_keyed id d ds t h.0 h.1 fit ∙ ap (λ l. insert_entry text_cmp l (doc_key x d) d) (without_keyed id old ds t is o fit (sym e))

  -- a write of another table does nothing
  other_table : (id : DocId) (y : Doc) → (id.table ≡ table → ⊥) → of_table y ≡ true → same_id id y.id ≡ false
  other_table id y n q = by_test (same_id id y.id)
      (λ s. absurd (n (ap (λ (j : DocId). j.table) (same_id_is id y.id s) ∙ eqb-true y.id.table table q)))
      (λ s. s)

  every_other : (id : DocId) (n : id.table ≡ table → ⊥) (l : Docs) → AllByRecursion (λ y. of_table y ≡ true → not (same_id id y.id) ≡ true) l
  every_other id n [] = tt
  every_other id n (y ∷ l) = ((λ q. ap not (other_table id y n q)), every_other id n l)

  without_other : (id : DocId) (ds : Docs) → (id.table ≡ table → ⊥) → rows table x (without_id id ds) ≡ rows table x ds
  without_other id ds n =
      rows-filter x of_table (λ y. not (same_id id y.id)) ds
      ∙ filter_every (λ y. not (same_id id y.id)) (rows table x ds) (all_rows x of_table (λ y. not (same_id id y.id) ≡ true) ds (every_other id n ds))

  pub rows_other : (id : DocId) (new : Option Doc) (ds : Docs) → (id.table ≡ table → ⊥) → IfSome new (λ d. d.id ≡ id) → rows table x (with_doc id new ds) ≡ rows table x ds
  rows_other id None ds n h = without_other id ds n
  rows_other id (Some d) ds n h =
      ap (λ b. cond b (placed_in (row_cmp x) d (rows table x (without_id id ds))) (rows table x (without_id id ds))) away ∙ without_other id ds n
    where
      away : of_table d ≡ false
      away = by_test (of_table d) (λ q. absurd (n (ap (λ (j : DocId). j.table) (sym h) ∙ eqb-true d.id.table table q))) (λ q. q)

  pub fit_filtered : (keep : Doc → Bool) (ds : Docs) → AllFit ds → AllFit (filter keep ds)
  fit_filtered keep [] h = tt
  fit_filtered keep (d ∷ ds) h = cond_both (keep d) _ _ AllFit (λ _. (h.0, fit_filtered keep ds h.1)) (λ _. fit_filtered keep ds h.1)

  pub fit_with : (id : DocId) (new : Option Doc) (ds : Docs) → IfSome new (λ d. of_table d ≡ true → Fits x d) → AllFit ds → AllFit (with_doc id new ds)
  fit_with id None ds h fit = fit_filtered (λ d. not (same_id id d.id)) ds fit
  fit_with id (Some d) ds h fit = (h, fit_filtered (λ d. not (same_id id d.id)) ds fit)
