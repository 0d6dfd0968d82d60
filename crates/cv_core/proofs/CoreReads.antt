-- What a core reads at a timestamp.
use Rattle.std.proofs.Common.{◌≡◌, ℕ, zero, suc, ◌-◌, ◌≤◌, Bool, true, false, nat_lt, cond, List, [], ◌∷◌, map, length, take, Option, Some, None, refl, sym, ap, ◌∙◌, subst}
use Rattle.std.specs.Prelude.{slice_get, option_map, option_and_then, IsSome, Result, Ok, Err, IfOk, reverse}
use Rattle.std.specs.List.{AllByRecursion}
use Rattle.std.proofs.lemmas.Option.{slice_get-map}
use Rattle.cv_values.specs.IdLaws.{IsId}
use Rattle.cv_values.specs.declared.doc.Doc.{Doc}
use Rattle.cv_values.specs.declared.ids.DocId.{DocId}
use Rattle.cv_keys.specs.Documents.{index_at}
use Rattle.cv_keys.specs.Intervals.{in_bytes}
use Rattle.cv_keys.specs.KeyOrder.{EndInRange}
use Rattle.cv_keys.specs.Places.{PlaceInterval}
use Rattle.cv_keys.specs.declared.schema.Index.{Index}
use Rattle.cv_keys.specs.declared.schema.Schema.{Schema}
use Rattle.cv_keys.specs.declared.schema.Table.{Table}
use Rattle.cv_docs.specs.Cut as docs_cut
use Rattle.cv_docs.specs.Rows as docs_rows
use Rattle.cv_docs.specs.IndexRows.{IndexRows}
use Rattle.fn_tree.specs.Documents.{Docs, doc_of}
use Rattle.fn_tree.specs.History.{History, AreRuns, docs_at}
use Rattle.fn_tree.specs.Rows as tree_rows
use Rattle.fn_tree.specs.Scan.{id_interval, found, in_direction}
use Rattle.fn_tree.specs.Schemas.{by_id, schema_of}
use Rattle.fn_tree.specs.SyntaxTree.{ModuleTree, TableTree}
use Rattle.fn_tree.proofs.TrueEntries.{Once, once_after}
use Rattle.cv_store.specs.Reads as reads
use Rattle.cv_log.specs.Records.{Log}
use Rattle.cv_core.specs.Cores.{IsCore}
use Rattle.cv_core.specs.Kept.{EntryFits}
use Rattle.cv_core.specs.Versioned.{Versioned, entries_or, entries_at, shape}
use Rattle.cv_core.proofs.CommitRows.{fit_after}
use Rattle.cv_core.proofs.IdRows.{IsHeld, held_after, ids_of, not_held, rows_of_id}
use Rattle.cv_core.proofs.Places.{schema_has}
use Rattle.cv_core.proofs.Reading.{same_cut, same_direction, rows_read}

-- ---- a front of the log

pub runs_take : (m : ModuleTree) (ts : ℕ) (ds : Docs) (h : History) → AreRuns m ds h → AreRuns m ds (take ts h)
runs_take m zero ds h r = tt
runs_take m (suc ts) ds [] r = tt
runs_take m (suc ts) ds (e ∷ h) r = (r.0, runs_take m ts _ h r.1)

pub all_take : {A : Type 0} (P : A → Type 0) (n : ℕ) (xs : List A) → AllByRecursion P xs → AllByRecursion P (take n xs)
all_take P zero xs h = tt
all_take P (suc n) [] h = tt
all_take P (suc n) (x ∷ xs) h = (h.0, all_take P n xs h.1)

-- ---- results

pub if_ok : {T E : Type 0} (P Q : T → Type 0) (r : Result T E) → IfOk r P → ((t : T) → P t → Q t) → IfOk r Q
if_ok P Q (Ok t) h f = f t h
if_ok P Q (Err e) h f = tt

module _ (m : ModuleTree) (log : Log) (v : Versioned) (is : IsCore m log v) (ts : ℕ) (seen : ts ≤ length log.entries) where
  abbrev schema : Schema
  schema = schema_of m.tables

  abbrev ds : Docs
  ds = docs_at log.entries ts

  front_runs : AreRuns m [] (take ts log.entries)
  front_runs = runs_take m ts [] log.entries is.legal.runs

  front_fits : AllByRecursion (EntryFits schema) (take ts log.entries)
  front_fits = all_take (EntryFits schema) ts log.entries is.fits

  -- the rows of an interval
  interval_rows : (p : PlaceInterval) (x : Index) → index_at schema p.table p.index ≡ Some x → EndInRange p.lo → EndInRange p.hi
      → docs_rows.rows_at v.docs ts (in_bytes p) (entries_at p.table p.index v.tables) ≡ tree_rows.rows_at schema p ds
  interval_rows p x at lo hi =
      let has = schema_has m.tables p.table p.index x at in
      rows_read x has v.docs ts p.table p (entries_at p.table p.index v.tables) ds refl lo hi
      (fit_after schema p.table p.index x has at m (take ts log.entries) [] front_runs front_fits tt) (is.rows.rows p.table p.index x at ts seen)
      ∙ ap (λ o. tree_rows.rows_in o p ds) (sym at)

  pub scan_reads : (p : PlaceInterval) (desc : Bool) (rows size : ℕ) → IsSome (index_at schema p.table p.index) → EndInRange p.lo → EndInRange p.hi
      → docs_cut.scanned v.docs ts (in_bytes p) desc rows size (entries_at p.table p.index v.tables) ≡ reads.cut rows size (in_direction desc (tree_rows.rows_at schema p ds))
  scan_reads p desc rows size there lo hi = go (index_at schema p.table p.index) refl there
    where
      go : (o : Option Index) → index_at schema p.table p.index ≡ o → IsSome o
          → docs_cut.scanned v.docs ts (in_bytes p) desc rows size (entries_at p.table p.index v.tables) ≡ reads.cut rows size (in_direction desc (tree_rows.rows_at schema p ds))
      go None at h = cc
      go (Some x) at h =
          ap (λ l. docs_cut.cut rows size (cond desc (reverse l) l)) (interval_rows p x at lo hi)
          ∙ ap (docs_cut.cut rows size) (same_direction desc (tree_rows.rows_at schema p ds))
          ∙ same_cut rows size (in_direction desc (tree_rows.rows_at schema p ds))

  -- ---- the document of an id

  held : AllByRecursion (IsHeld schema) ds
  held = held_after schema m (take ts log.entries) [] front_runs front_fits tt

  once : Once ds
  once = once_after m (take ts log.entries) [] tt front_runs

  first_index : (tables : List TableTree) (n : ℕ) → IsSome (slice_get (schema_of tables).tables n) → index_at (schema_of tables) n 0 ≡ Some by_id
  first_index [] n h = cc
  first_index (t ∷ tables) zero h = refl
  first_index (t ∷ tables) (suc n) h = first_index tables n h

  one_found : (size : ℕ) (o : Option Doc) → docs_cut.cut 1 size (found o) ≡ found o
  one_found size None = refl
  one_found size (Some d) = go (nat_lt size (docs_cut.doc_size d))
    where
      go : (b : Bool) → ◌≡◌ {A = List Doc} (d ∷ cond b [] (docs_cut.cut 0 (size - docs_cut.doc_size d) [])) (d ∷ [])
      go true = refl
      go false = refl

  no_tables : (tables : List (List IndexRows)) (ts : List Table) (n : ℕ) → shape tables ≡ map (λ t. length t.indexes) ts → slice_get ts n ≡ None → slice_get tables n ≡ None
  no_tables tables ts n e none = go (slice_get tables n) refl
    where
      same : option_map length (slice_get tables n) ≡ option_map (λ (t : Table). length t.indexes) (slice_get ts n)
      same = sym (slice_get-map length tables n) ∙ ap (λ (l : List ℕ). slice_get l n) e ∙ slice_get-map (λ (t : Table). length t.indexes) ts n

      go : (o : Option (List IndexRows)) → slice_get tables n ≡ o → slice_get tables n ≡ None
      go None q = q
      go (Some l) q =
          let f : ◌≡◌ {A = Option ℕ} (Some (length l)) None = sym (ap (option_map length) q) ∙ same ∙ ap (option_map (λ (t : Table). length t.indexes)) none in cc

  pub get_reads : (id : DocId) (size : ℕ) → IsId id
      → docs_cut.scanned v.docs ts (in_bytes (id_interval id)) false 1 size (entries_at id.table 0 v.tables) ≡ found (doc_of id ds)
  get_reads id size fits = go (slice_get schema.tables id.table) refl
    where
      go : (o : Option Table) → slice_get schema.tables id.table ≡ o
          → docs_cut.scanned v.docs ts (in_bytes (id_interval id)) false 1 size (entries_at id.table 0 v.tables) ≡ found (doc_of id ds)
      go None e =
          let none : entries_at id.table 0 v.tables ≡ [] = ap (λ o. entries_or (option_and_then (λ t. slice_get t 0) o)) (no_tables v.tables schema.tables id.table is.rows.shape e) in
          ap (λ es. docs_cut.scanned v.docs ts (in_bytes (id_interval id)) false 1 size es) none
          ∙ ap found (sym (not_held schema id ds e held))
      go (Some t) e =
          let at : index_at schema id.table 0 ≡ Some by_id = first_index m.tables id.table (subst IsSome (sym e) refl) in
          ap (docs_cut.cut 1 size) (interval_rows (id_interval id) by_id at (tt, tt) (tt, tt)
          ∙ ap (λ o. tree_rows.rows_in o (id_interval id) ds) at
          ∙ rows_of_id id ds fits (ids_of schema ds held) once)
          ∙ one_found size (doc_of id ds)
