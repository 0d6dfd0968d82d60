-- The rows of a core after one entry more.
use Rattle.std.proofs.Common.{◌≡◌, ℕ, zero, suc, ◌+◌, ◌<◌, ◌≤◌, Bool, true, false, nat_le, cond, List, [], ◌∷◌, ◌++◌, length, take, drop, Option, Some, None, refl, sym, ap, ◌∙◌, subst, length-append, arith}
use Rattle.std.specs.Prelude.{IfSome, slice_get}
use Rattle.std.specs.List.{AllByRecursion}
use Rattle.std.proofs.lemmas.Bool.{eqb-true}
use Rattle.std.proofs.lemmas.Bool.Decides.{nat_tests}
use Rattle.std.proofs.lemmas.List.{take_all}
use Rattle.cv_values.specs.IdLaws.{IsId}
use Rattle.cv_values.specs.declared.doc.Doc.{Doc}
use Rattle.cv_values.specs.declared.ids.DocId.{DocId}
use Rattle.cv_keys.specs.Documents.{index_at, indexes_of}
use Rattle.cv_keys.specs.Touch.{DocInRange}
use Rattle.cv_keys.specs.declared.schema.Index.{Index}
use Rattle.cv_keys.specs.declared.schema.Schema.{Schema}
use Rattle.cv_keys.specs.declared.write.Write.{Write}
use Rattle.cv_docs.specs.Entries.{IsInOrder, AllBefore, AreKnown}
use Rattle.cv_docs.specs.History.{current, with_all, AreAllowed}
use Rattle.cv_docs.specs.declared.entry.IndexEntry.{IndexEntry}
use Rattle.cv_docs.proofs.Allowed.{earlier_from_before}
use Rattle.fn_tree.specs.Documents.{Docs, with_doc, and_doc, applied}
use Rattle.fn_tree.specs.History.{Entry, History, IsRunOn, AreRuns, IsLegal, docs_after, docs_at}
use Rattle.fn_tree.specs.Rows.{rows}
use Rattle.fn_tree.specs.Schemas.{schema_of}
use Rattle.fn_tree.specs.SyntaxTree.{ModuleTree}
use Rattle.fn_tree.proofs.DocumentLemmas.{doc_of_id}
use Rattle.fn_tree.proofs.TrueEntries.{TellTruly, entry_tells, once_after}
use Rattle.cv_store.specs.Ranges.{DocsInRange}
use Rattle.cv_core.specs.Changes.{doc_key, has_key, WriteFits, gone, put, changes_in, write_changes, next_version, changes_of, new_docs, changes_at, entries_of, is_at}
use Rattle.cv_core.specs.Kept.{EntryFits, HoldsRows, shown, keyed}
use Rattle.cv_core.specs.Versioned.{Versioned, entries_at, shape}
use Rattle.cv_core.specs.declared.change.Change.{Change}
use Rattle.cv_core.proofs.ChangesAt.{at-append, write_nowhere}
use Rattle.cv_core.proofs.DistinctIds.{entry_distinct}
use Rattle.cv_core.proofs.Grown.{AllAt, IsKnown, order_all, before_all, known_all, known_lift, before_next, current_all, current_before, current_last, ascending_newest, shown_more}
use Rattle.cv_core.proofs.Openings.{HasOwnId, Open, writes_allowed}
use Rattle.cv_core.proofs.Places.{HasId, Fits, schema_has}
use Rattle.cv_core.proofs.RowSteps.{of_table, AllFit, fit_with}
use Rattle.cv_core.proofs.Written.{WriteIn, writes_shown}

-- ---- what writes fit

range_at : (old new : Option Doc) (xs : List Index) (i : ℕ) (x : Index) → DocsInRange old new xs → slice_get xs i ≡ Some x → DocInRange (Some x) old × DocInRange (Some x) new
range_at old new [] i x h e = cc
range_at old new (y ∷ xs) zero x h e = let same : y ≡ x = cc in subst (λ (z : Index). DocInRange (Some z) old × DocInRange (Some z) new) same h.0
range_at old new (y ∷ xs) (suc i) x h e = range_at old new xs i x h.1 e

module _ (schema : Schema) (table index : ℕ) (x : Index) (at : index_at schema table index ≡ Some x) where
  place_fits : (id : DocId) (d : Option Doc) → IfSome d (λ e. e.id ≡ id) → DocInRange (Some x) d → IsId id → IfSome d (Fits x)
  place_fits id None i r h = tt
  place_fits id (Some d) i r h = record { place = r; id = subst IsId (sym i) h }

  pub write_in : (w : Write) → WriteFits schema w → HasOwnId w → WriteIn x table w
  write_in w f own t =
      let slot : slice_get (indexes_of schema w.id.table) index ≡ Some x = ap (λ (n : ℕ). slice_get (indexes_of schema n) index) t ∙ at in
      let range = range_at w.old w.new (indexes_of schema w.id.table) index x f.docs slot in
      (place_fits w.id w.old own.0 range.0 f.id, place_fits w.id w.new own.1 range.1 f.id)

  pub writes_in : (ws : List Write) → AllByRecursion (WriteFits schema) ws → AllByRecursion HasOwnId ws → AllByRecursion (WriteIn x table) ws
  writes_in [] f own = tt
  writes_in (w ∷ ws) f own = (write_in w f.0 own.0, writes_in ws f.1 own.1)

pub own_ids : (ds : Docs) (ws : List Write) → TellTruly ds ws → AllByRecursion HasOwnId ws
own_ids ds [] h = tt
own_ids ds (w ∷ ws) h = ((subst (λ d. IfSome d (λ e. e.id ≡ w.id)) (sym h.0) (doc_of_id w.id ds), h.1), own_ids (with_doc w.id w.new ds) ws h.2)

module _ (schema : Schema) (table index : ℕ) (x : Index) (has : HasId x.fields) (at : index_at schema table index ≡ Some x) where
  new_fit : (w : Write) → IfSome w.new (λ d. d.id ≡ w.id) → WriteIn x table w → IfSome w.new (λ d. of_table x has table d ≡ true → Fits x d)
  new_fit w h k = go w.new h (λ t. (k t).1)
    where
      go : (new : Option Doc) → IfSome new (λ d. d.id ≡ w.id) → (w.id.table ≡ table → IfSome new (Fits x)) → IfSome new (λ d. of_table x has table d ≡ true → Fits x d)
      go None h k = tt
      go (Some d) h k = λ q. k (ap (λ (j : DocId). j.table) (sym h) ∙ eqb-true d.id.table table q)

  fit_applied : (ws : List Write) (ds : Docs) → TellTruly ds ws → AllByRecursion (WriteFits schema) ws → AllFit x has table ds → AllFit x has table (applied ws ds)
  fit_applied [] ds h f fit = fit
  fit_applied (w ∷ ws) ds h f fit =
      let own = own_ids ds (w ∷ ws) h in
      fit_applied ws (with_doc w.id w.new ds) h.2 f.1 (fit_with x has table w.id w.new ds (new_fit w h.1 (write_in schema table index x at w f.0 own.0)) fit)

  pub fit_after : (m : ModuleTree) (h : History) (ds : Docs) → AreRuns m ds h → AllByRecursion (EntryFits schema) h → AllFit x has table ds → AllFit x has table (docs_after h ds)
  fit_after m [] ds r f fit = fit
  fit_after m (e ∷ h) ds r f fit = fit_after m h (applied e.writes ds) r.1 f.1 (fit_applied e.writes ds (entry_tells m ds e r.0) f.0 fit)

-- ---- histories with one entry more

pub runs_last : (m : ModuleTree) (ds : Docs) (h : History) (e : Entry) → AreRuns m ds (h ++ e ∷ []) → IsRunOn m (docs_after h ds) e
runs_last m ds [] e r = r.0
runs_last m ds (f ∷ h) e r = runs_last m (applied f.writes ds) h e r.1

runs_first : (m : ModuleTree) (ds : Docs) (h : History) (e : Entry) → AreRuns m ds (h ++ e ∷ []) → AreRuns m ds h
runs_first m ds [] e r = tt
runs_first m ds (f ∷ h) e r = (r.0, runs_first m (applied f.writes ds) h e r.1)

after_end : (h : History) (e : Entry) (ds : Docs) → docs_after (h ++ e ∷ []) ds ≡ applied e.writes (docs_after h ds)
after_end [] e ds = refl
after_end (f ∷ h) e ds = after_end h e (applied f.writes ds)

take_front : (ts : ℕ) (h : History) (e : Entry) → ts ≤ length h → take ts (h ++ e ∷ []) ≡ take ts h
take_front zero h e l = refl
take_front (suc ts) [] e l = absurd (omega (arith, l))
take_front (suc ts) (f ∷ h) e l = ap (λ r. f ∷ r) (take_front ts h e (omega (arith, l)))

-- ---- versions of changes are known

versions_in : (N u n j : ℕ) (old new : Option Doc) (xs : List Index) → IfSome new (λ d. n < N) → AllByRecursion (λ (c : Change). IsKnown N c.version) (changes_in u n old new j xs)
versions_in N u n j old new [] h = tt
versions_in N u n j old new (x ∷ xs) h = both (gone u j x old new ++ put u j x n new) (changes_in u n old new (j + 1) xs)
    (both (gone u j x old new) (put u j x n new) (gone_known old) (put_known new h)) (versions_in N u n (j + 1) old new xs h)
  where
    both : (a b : List Change) → AllByRecursion (λ (c : Change). IsKnown N c.version) a → AllByRecursion (λ (c : Change). IsKnown N c.version) b → AllByRecursion (λ (c : Change). IsKnown N c.version) (a ++ b)
    both [] b p q = q
    both (c ∷ a) b p q = (p.0, both a b p.1 q)

    gone_known : (o : Option Doc) → AllByRecursion (λ (c : Change). IsKnown N c.version) (gone u j x o new)
    gone_known None = tt
    gone_known (Some d) = go (has_key x (doc_key x d) new)
      where
        go : (b : Bool) → AllByRecursion (λ (c : Change). IsKnown N c.version) (cond b [] (record { table = u; index = j; key = doc_key x d; version = None } ∷ []))
        go true = tt
        go false = (tt, tt)

    put_known : (o : Option Doc) → IfSome o (λ d. n < N) → AllByRecursion (λ (c : Change). IsKnown N c.version) (put u j x n o)
    put_known None h = tt
    put_known (Some d) h = (h, tt)

versions_of : (schema : Schema) (N n : ℕ) (ws : List Write) → n + length (new_docs ws) ≤ N → AllByRecursion (λ (c : Change). IsKnown N c.version) (changes_of schema n ws)
versions_of schema N n [] h = tt
versions_of schema N n (w ∷ ws) h = both (write_changes schema n w) (changes_of schema (next_version n w.new) ws)
    (versions_in N w.id.table n 0 w.old w.new (indexes_of schema w.id.table) (here w.new h)) (versions_of schema N (next_version n w.new) ws (next w.new h))
  where
    both : (a b : List Change) → AllByRecursion (λ (c : Change). IsKnown N c.version) a → AllByRecursion (λ (c : Change). IsKnown N c.version) b → AllByRecursion (λ (c : Change). IsKnown N c.version) (a ++ b)
    both [] b p q = q
    both (c ∷ a) b p q = (p.0, both a b p.1 q)

    here : (new : Option Doc) → n + length (and_doc new (new_docs ws)) ≤ N → IfSome new (λ d. n < N)
    here None h = tt
    here (Some d) h = omega (arith, h)

    next : (new : Option Doc) → n + length (and_doc new (new_docs ws)) ≤ N → next_version n new + length (new_docs ws) ≤ N
    next None h = h
    next (Some d) h = omega (arith, h)

versions_at : (N ts table index : ℕ) (cs : List Change) → AllByRecursion (λ (c : Change). IsKnown N c.version) cs → AllByRecursion (λ (e : IndexEntry). IsKnown N e.version) (entries_of ts (changes_at table index cs))
versions_at N ts table index [] h = tt
versions_at N ts table index (c ∷ cs) h = go (is_at table index c) (versions_at N ts table index cs h.1)
  where
    go : (b : Bool) → AllByRecursion (λ (e : IndexEntry). IsKnown N e.version) (entries_of ts (changes_at table index cs))
        → AllByRecursion (λ (e : IndexEntry). IsKnown N e.version) (entries_of ts (cond b (c ∷ changes_at table index cs) (changes_at table index cs)))
    go true ih = (h.0, ih)
    go false ih = ih

pub all_at : (ts : ℕ) (cs : List Change) → AllAt ts (entries_of ts cs)
all_at ts [] = tt
all_at ts (c ∷ cs) = (refl, all_at ts cs)

nothing_at : (schema : Schema) (table index n : ℕ) (ws : List Write) → index_at schema table index ≡ None → changes_at table index (changes_of schema n ws) ≡ []
nothing_at schema table index n [] e = refl
nothing_at schema table index n (w ∷ ws) e =
    at-append table index (write_changes schema n w) (changes_of schema (next_version n w.new) ws)
    ∙ ap (λ r. r ++ changes_at table index (changes_of schema (next_version n w.new) ws)) (write_nowhere schema table index n w e)
    ∙ nothing_at schema table index (next_version n w.new) ws e

drop_front : (docs more : List Doc) → drop (length docs) (docs ++ more) ≡ more
drop_front [] more = refl
drop_front (d ∷ docs) more = drop_front docs more

le_true : (a b : ℕ) → nat_le a b ≡ true → a ≤ b
le_true a b h = grind (arith, nat_tests)

le_false : (a b : ℕ) → a ≤ b + 1 → nat_le a b ≡ false → a ≡ b + 1
le_false a b l h = grind (arith, nat_tests)

-- ---- the commit of an entry

module _ (m : ModuleTree) (h : History) (e : Entry) (v : Versioned) (legal : IsLegal m (h ++ e ∷ [])) (fits : AllByRecursion (EntryFits (schema_of m.tables)) h) (writes : AllByRecursion (WriteFits (schema_of m.tables)) e.writes) (holds : HoldsRows (schema_of m.tables) h v) where
  abbrev schema : Schema
  schema = schema_of m.tables

  abbrev changes : List Change
  changes = changes_of schema (length v.docs) e.writes

  abbrev added : (table index : ℕ) → List IndexEntry
  added table index = entries_of (length h + 1) (changes_at table index changes)

  run : IsRunOn m (docs_after h []) e
  run = runs_last m [] h e legal.runs

  truth : TellTruly (docs_after h []) e.writes
  truth = entry_tells m (docs_after h []) e run

  before_open : (x : Index) (has : HasId x.fields) (ws : List Write) (es : List IndexEntry) → AllBefore (length h + 1) es → AllByRecursion (λ w. Open x has (length h + 1) es w.id) ws
  before_open x has [] es b = tt
  before_open x has (w ∷ ws) es b = ((λ d i f. earlier_from_before (doc_key x d) (length h + 1) es b), before_open x has ws es b)

  -- its changes are allowed
  pub commit_allowed : (table index : ℕ) → AreAllowed (added table index) (entries_at table index v.tables)
  commit_allowed table index = go (index_at schema table index) refl
    where
      go : (o : Option Index) → index_at schema table index ≡ o → AreAllowed (added table index) (entries_at table index v.tables)
      go None at = subst (λ cs. AreAllowed (entries_of (length h + 1) cs) (entries_at table index v.tables)) (sym (nothing_at schema table index (length v.docs) e.writes at)) tt
      go (Some x) at =
          let has = schema_has m.tables table index x at in
          let own = own_ids (docs_after h []) e.writes truth in
          writes_allowed x has (length h + 1) schema table index at (length v.docs) e.writes (entries_at table index v.tables) (entry_distinct m (docs_after h []) e run) own
          (writes_in schema table index x at e.writes writes own) (before_open x has e.writes (entries_at table index v.tables) (holds.before table index))

  module _ (w : Versioned) (docs : w.docs ≡ v.docs ++ new_docs e.writes) (shapes : shape w.tables ≡ shape v.tables) (rows_are : (table index : ℕ) → entries_at table index w.tables ≡ with_all (added table index) (entries_at table index v.tables)) where
    count : length (h ++ e ∷ []) ≡ length h + 1
    count = length-append h (e ∷ [])

    known_now : (table index : ℕ) → AreKnown (length w.docs) (entries_at table index w.tables)
    known_now table index =
        let N = length (v.docs ++ new_docs e.writes) in
        let sum : N ≡ length v.docs + length (new_docs e.writes) = length-append v.docs (new_docs e.writes) in
        subst (λ es. AreKnown (length w.docs) es) (sym (rows_are table index))
        (subst (λ ds. AreKnown (length ds) (with_all (added table index) (entries_at table index v.tables))) (sym docs)
        (known_all N (added table index) (entries_at table index v.tables)
        (versions_at N (length h + 1) table index changes (versions_of schema N (length v.docs) e.writes (omega (arith, sum))))
        (known_lift (length v.docs) N (entries_at table index v.tables) (omega (arith, sum)) (holds.known table index))))

    -- the rows of an earlier timestamp
    rows_before : (table index : ℕ) (x : Index) → index_at schema table index ≡ Some x → (ts : ℕ) → ts ≤ length h
        → shown w.docs (current ts (entries_at table index w.tables)) ≡ keyed x (rows table x (docs_at (h ++ e ∷ []) ts))
    rows_before table index x at ts l =
        ap (λ es. shown w.docs (current ts es)) (rows_are table index)
        ∙ ap (shown w.docs) (current_before ts (length h + 1) (added table index) (entries_at table index v.tables) (omega (arith, l)) (all_at (length h + 1) (changes_at table index changes)))
        ∙ ap (λ ds. shown ds (current ts (entries_at table index v.tables))) docs
        ∙ shown_more v.docs (new_docs e.writes) ts (entries_at table index v.tables) (holds.known table index)
        ∙ holds.rows table index x at ts l
        ∙ ap (λ (k : History). keyed x (rows table x (docs_after k []))) (sym (take_front ts h e l))

    -- those of the new one
    rows_now : (table index : ℕ) (x : Index) → index_at schema table index ≡ Some x
        → shown w.docs (current (length h + 1) (entries_at table index w.tables)) ≡ keyed x (rows table x (docs_after (h ++ e ∷ []) []))
    rows_now table index x at =
        let has = schema_has m.tables table index x at in
        let es = entries_at table index v.tables in
        let all = v.docs ++ new_docs e.writes in
        let own = own_ids (docs_after h []) e.writes truth in
        let runs = runs_first m [] h e legal.runs in
        let now : docs_at h (length h) ≡ docs_after h [] = ap (λ (k : History). docs_after k []) (take_all (length h) h (omega arith)) in
        ap (λ es. shown w.docs (current (length h + 1) es)) (rows_are table index)
        ∙ ap (λ ds. shown ds (current (length h + 1) (with_all (added table index) es))) docs
        ∙ ap (shown all) (current_all (length h + 1) (added table index) es (all_at (length h + 1) (changes_at table index changes)) (holds.order table index) (commit_allowed table index))
        ∙ writes_shown schema all (length h + 1) table index x has at (length v.docs) e.writes (current (length h + 1) es) (docs_after h [])
        (drop_front v.docs (new_docs e.writes)) (ascending_newest (length h + 1) es (holds.order table index)) truth (writes_in schema table index x at e.writes writes own)
        (once_after m h [] tt runs) (fit_after schema table index x has at m h [] runs fits tt)
        (ap (shown all) (current_last (length h) es (holds.before table index)) ∙ shown_more v.docs (new_docs e.writes) (length h) es (holds.known table index)
        ∙ holds.rows table index x at (length h) (omega arith) ∙ ap (λ (ds : Docs). keyed x (rows table x ds)) now)
        ∙ ap (λ (ds : Docs). keyed x (rows table x ds)) (sym (after_end h e []))

    pub commit_holds : HoldsRows schema (h ++ e ∷ []) w
    commit_holds = record {
      shape = shapes ∙ holds.shape;
      order = λ table index. subst IsInOrder (sym (rows_are table index)) (order_all (added table index) (entries_at table index v.tables) (holds.order table index) (commit_allowed table index));
      before = λ table index.
          let step : AllBefore (length h + 1 + 1) (entries_at table index w.tables) =
          subst (AllBefore (length h + 1 + 1)) (sym (rows_are table index))
          (before_all (length h + 1) (added table index) (entries_at table index v.tables) (all_at (length h + 1) (changes_at table index changes)) (before_next (length h + 1) (entries_at table index v.tables) (holds.before table index))) in
          subst (λ (n : ℕ). AllBefore (n + 1) (entries_at table index w.tables)) (sym count) step;
      known = known_now;
      rows = λ table index x at ts l. by_last table index x at ts (omega (arith, l, count));
    }
      where
        last_docs : (ts : ℕ) → ts ≡ length h + 1 → docs_at (h ++ e ∷ []) ts ≡ docs_after (h ++ e ∷ []) []
        last_docs ts p = ap (λ (k : History). docs_after k []) (take_all ts (h ++ e ∷ []) (omega (arith, count, p)))

        by_last : (table index : ℕ) (x : Index) → index_at schema table index ≡ Some x → (ts : ℕ) → ts ≤ length h + 1
            → shown w.docs (current ts (entries_at table index w.tables)) ≡ keyed x (rows table x (docs_at (h ++ e ∷ []) ts))
        by_last table index x at ts l = go (nat_le ts (length h)) refl
          where
            go : (b : Bool) → nat_le ts (length h) ≡ b → shown w.docs (current ts (entries_at table index w.tables)) ≡ keyed x (rows table x (docs_at (h ++ e ∷ []) ts))
            go true q = rows_before table index x at ts (le_true ts (length h) q)
            go false q =
                let last : ts ≡ length h + 1 = le_false ts (length h) l q in
                ap (λ (t : ℕ). shown w.docs (current t (entries_at table index w.tables))) last ∙ rows_now table index x at
                ∙ ap (λ (ds : Docs). keyed x (rows table x ds)) (sym (last_docs ts last))
