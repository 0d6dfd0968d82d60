-- What a commit is given, and what it leaves.
use Rattle.std.proofs.Common.{◌≡◌, ℕ, ◌+◌, List, [], ◌∷◌, ◌++◌, map, length, Option, None, sym, ap, ◌∙◌, subst, arith}
use Rattle.std.specs.List.{AllByRecursion}
use Rattle.cv_keys.specs.declared.schema.Schema.{Schema}
use Rattle.cv_keys.specs.declared.schema.Table.{Table}
use Rattle.cv_docs.specs.Entries.{IsInOrder, AllBefore, AreKnown}
use Rattle.cv_docs.specs.History.{current, with_all, AreAllowed}
use Rattle.fn_tree.specs.History.{Entry, History, IsLegal, docs_at}
use Rattle.fn_tree.specs.Rows.{rows as rows_of_table}
use Rattle.fn_tree.specs.Schemas.{schema_of}
use Rattle.fn_tree.specs.SyntaxTree.{ModuleTree}
use Rattle.fn_tree.specs.SyntaxViews.{module_view}
use Rattle.fn_tree.specs.declared.syntax.Module.{Module}
use Rattle.cv_store.specs.FirstTouch.{first_touch}
use Rattle.cv_store.specs.Kept.{kept}
use Rattle.cv_store.specs.Marks.{marks_by_entry}
use Rattle.cv_store.specs.declared.conflict.Conflict.{Conflict}
use Rattle.cv_store.specs.Stores.{IsRunOf, entry_of}
use Rattle.cv_store.specs.declared.proposal.Proposal.{Proposal}
use Rattle.cv_log.specs.Records.{Log}
use Rattle.cv_core.specs.Changes.{changes_at, changes_of, entries_of}
use Rattle.cv_core.specs.Cores.{State, state_of, program_of, schema_in, alone, StandsWell, IsRoom, IsCore}
use Rattle.cv_core.specs.Kept.{EntryFits, HoldsRows, shown, keyed}
use Rattle.cv_core.specs.Versioned.{Versioned, entries_at, shape}
use Rattle.cv_core.specs.declared.change.Change.{Change}
use Rattle.cv_core.specs.declared.ready.Room.{Room}
use Rattle.cv_core.proofs.CoreNext.{May, are_in_range, next_allowed, next_core}

pub may_of : (c : State) (p : Proposal) (r : Room) → IsRunOf (alone c) p → kept p.call.session p.call.request c.log ≡ None
    → first_touch (schema_in c) p.reads c.log p.snapshot ≡ None → IsRoom c p r → May (program_of c) c.log p
may_of c p r run new untouched room = record { answer = run.answer; writes = run.writes; new = new; untouched = untouched; fits = room.fits }

-- the log of a core is legal and in range
pub well_of : (tree : Module) (log : Log) (v : Versioned) (s : State) → IsCore (module_view tree) log v → state_of tree log v ≡ s → StandsWell s
well_of tree log v s is e =
    let well : StandsWell (state_of tree log v) = record { legal = is.legal; in_range = are_in_range (schema_of (module_view tree).tables) log.entries is.fits } in
    subst StandsWell e well

module _ (tree : Module) (log : Log) (v : Versioned) (p : Proposal) (r : Room) (is : IsCore (module_view tree) log v) (may : May (module_view tree) log.entries p) (room : IsRoom (state_of tree log v) p r) (ts : ℕ) (at : ts ≡ length log.entries + 1) where
  -- the changes of the room are those that the rows need
  pub room_allowed : (table index : ℕ) → AreAllowed (entries_of ts (changes_at table index r.changes.items)) (entries_at table index v.tables)
  room_allowed table index =
      subst (λ (cs : List Change). AreAllowed (entries_of ts (changes_at table index cs)) (entries_at table index v.tables)) (sym room.changes)
      (subst (λ (n : ℕ). AreAllowed (entries_of n (changes_at table index (changes_of (schema_in (state_of tree log v)) (length v.docs) p.writes))) (entries_at table index v.tables)) (sym at)
      (next_allowed (module_view tree) log v p is may table index))

  pub room_core : (after : Log) (w : Versioned) → after.entries ≡ log.entries ++ entry_of p ∷ [] → after.marks ≡ log.marks ++ r.marks.items ∷ []
      → w.docs ≡ v.docs ++ r.docs.items → shape w.tables ≡ shape v.tables
      → ((table index : ℕ) → entries_at table index w.tables ≡ with_all (entries_of ts (changes_at table index r.changes.items)) (entries_at table index v.tables))
      → IsCore (module_view tree) after w
  room_core after w entries marks docs shapes rows =
      next_core (module_view tree) log v p is may after w entries (marks ∙ ap (λ ms. log.marks ++ ms ∷ []) room.marks) (docs ∙ ap (λ ds. v.docs ++ ds) room.docs) shapes
      (λ table index.
      rows table index ∙ ap (λ (cs : List Change). with_all (entries_of ts (changes_at table index cs)) (entries_at table index v.tables)) room.changes
      ∙ ap (λ (n : ℕ). with_all (entries_of n (changes_at table index (changes_of (schema_in (state_of tree log v)) (length v.docs) p.writes))) (entries_at table index v.tables)) at)

-- the first touch that the log tells
pub touch_told : (tree : Module) (log : Log) (v : Versioned) (s : State) (p : Proposal) (r : Option Conflict) → IsCore (module_view tree) log v → state_of tree log v ≡ s
    → ((schema : Schema) → log.marks ≡ marks_by_entry schema 0 log.entries → r ≡ first_touch schema p.reads log.entries p.snapshot)
    → r ≡ first_touch (schema_in s) p.reads s.log p.snapshot
touch_told tree log v s p r is e h = subst (λ (t : State). r ≡ first_touch (schema_in t) p.reads t.log p.snapshot) e (h (schema_of (module_view tree).tables) is.marks)

-- ---- a new core

empty_holds : (schema : Schema) (v : Versioned) → v.docs ≡ [] → shape v.tables ≡ map (λ (t : Table). length t.indexes) schema.tables → ((table index : ℕ) → entries_at table index v.tables ≡ [])
    → HoldsRows schema [] v
empty_holds schema v docs shapes none = record {
  shape = shapes;
  order = λ t i. subst IsInOrder (sym (none t i)) tt;
  before = λ t i. subst (AllBefore (length {A = Entry} [] + 1)) (sym (none t i)) tt;
  known = λ t i. subst (AreKnown (length v.docs)) (sym (none t i)) tt;
  rows = λ t i x at ts l.
      let first : 0 ≡ ts = omega (arith, l) in
      ap (λ es. shown v.docs (current ts es)) (none t i) ∙ ap (λ (n : ℕ). keyed x (rows_of_table t x (docs_at [] n))) first;
}

pub new_core : (m : ModuleTree) (log : Log) (v : Versioned) → log.entries ≡ [] → log.marks ≡ [] → v.docs ≡ [] → shape v.tables ≡ map (λ (t : Table). length t.indexes) (schema_of m.tables).tables
    → ((table index : ℕ) → entries_at table index v.tables ≡ []) → IsCore m log v
new_core m log v entries marks docs shapes none = record {
  legal = subst (IsLegal m) (sym entries) (record { runs = tt; once = tt });
  marks = marks ∙ sym (ap (marks_by_entry (schema_of m.tables) 0) entries);
  fits = subst (AllByRecursion (EntryFits (schema_of m.tables))) (sym entries) tt;
  rows = subst (λ (h : History). HoldsRows (schema_of m.tables) h v) (sym entries) (empty_holds (schema_of m.tables) v docs shapes none);
}
