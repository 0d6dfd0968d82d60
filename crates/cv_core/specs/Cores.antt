-- What a core means.
use Rattle.std.specs.Prelude.{◌≡◌, ℕ, ◌+◌, ◌<◌, ◌≤◌, ◌^◌, [], length, Option, Some, None, refl}
use Rattle.std.specs.List.{AllByRecursion}
use Rattle.std.specs.Coded.{Coded, code_by, coded×, coded_option, coded_ℕ}
use Rattle.cv_keys.specs.declared.schema.Schema.{Schema}
use Rattle.fn_tree.specs.EntryViews.{reply_view}
use Rattle.fn_tree.specs.History.{History, IsLegal}
use Rattle.fn_tree.specs.SyntaxTree.{ModuleTree}
use Rattle.fn_tree.specs.SyntaxViews.{module_view}
use Rattle.fn_tree.specs.contracts.syntax.Module as module_row
use Rattle.fn_tree.specs.declared.syntax.Module.{Module}
use Rattle.cv_store.specs.Cache.{Cache}
use Rattle.cv_store.specs.Codes.{history_code, cache_code}
use Rattle.cv_store.specs.Kept.{kept}
use Rattle.cv_store.specs.Marks.{entry_marks, marks_by_entry}
use Rattle.cv_store.specs.Ranges.{AreInRange}
use Rattle.cv_store.specs.Stores.{Standing, Name, schema_at, entry_of}
use Rattle.cv_store.specs.Turns.{no_turns}
use Rattle.cv_store.specs.declared.proposal.Proposal.{Proposal}
use Rattle.cv_store.specs.declared.turns.Turns.{Turns}
use Rattle.cv_log.specs.Records.{Log}
use Rattle.cv_core.specs.Changes.{changes_of, changes_at, new_docs, WriteFits}
use Rattle.cv_core.specs.Kept.{EntryFits, HoldsRows}
use Rattle.cv_core.specs.Versioned.{Versioned, versioned_code, entries_at, spare_at}
use Rattle.cv_core.specs.declared.ready.Prepared.{Prepared}
use Rattle.cv_core.specs.declared.ready.Prepared.TheVariants.{Known, Fresh}
use Rattle.cv_core.specs.declared.ready.Ready.{Ready}
use Rattle.cv_core.specs.declared.ready.Room.{Room}

-- a module, the log of its entries, the rows of all timestamps, how many entries more the log takes without memory, and the cache where answers are kept
pub record State : Type 0 where
  pub tree : Module
  pub log : History
  pub rows : Versioned
  pub spare : ℕ
  pub cache : Option Cache

abbrev pub state_code : Coded State
state_code = code_by (Module × (History × (Versioned × (ℕ × Option Cache))))
    (coded× module_row.the_row.coded (coded× history_code (coded× versioned_code (coded× coded_ℕ (coded_option cache_code)))))
    (λ s. (s.tree, (s.log, (s.rows, (s.spare, s.cache))))) (λ p. record { tree = p.0; log = p.1.0; rows = p.1.1.0; spare = p.1.1.1.0; cache = p.1.1.1.1 }) (λ _. refl)

-- no answers are kept yet
abbrev pub state_of : Module → Log → Versioned → State
state_of tree log rows = record { tree = tree; log = log.entries; rows = rows; spare = log.spare; cache = None }

abbrev pub program_of : State → ModuleTree
program_of c = module_view c.tree

abbrev pub schema_in : State → Schema
schema_in c = schema_at (program_of c) c.log (length c.log)

-- the core as a store that has seen the whole log
abbrev pub standing : Name → (mine : History) → Turns → State → Standing
standing name mine turns c = record { program = program_of c; name = name; seen = c.log; mine = mine; cache = c.cache; turns = turns }

-- one without a name, that appended nothing and took no step
abbrev pub alone : State → Standing
alone c = standing [] [] no_turns c

-- the log is legal, and its documents are in range
pub record StandsWell (c : State) : Type 0 where
  pub legal : IsLegal (program_of c) c.log
  pub in_range : AreInRange (schema_in c) c.log

-- all stays but the room that is made
pub record IsSameButRoom (c d : State) : Type 0 where
  pub tree : d.tree ≡ c.tree
  pub log : d.log ≡ c.log
  pub docs : d.rows.docs ≡ c.rows.docs
  pub rows : (table index : ℕ) → entries_at table index d.rows.tables ≡ entries_at table index c.rows.tables
  pub cache : d.cache ≡ c.cache

-- what holds of each core
pub record IsCore (m : ModuleTree) (log : Log) (held : Versioned) : Type 0 where
  pub legal : IsLegal m log.entries
  pub marks : log.marks ≡ marks_by_entry (schema_at m log.entries (length log.entries)) 0 log.entries
  pub fits : AllByRecursion (EntryFits (schema_at m log.entries (length log.entries))) log.entries
  pub rows : HoldsRows (schema_at m log.entries (length log.entries)) log.entries held

-- ---- a proposal

-- all room for the proposal's entry, its marks, and what it changes
pub record IsRoom (c : State) (p : Proposal) (r : Room) : Type 0 where
  pub few : length p.reads < 2 ^ 32
  pub marks : r.marks.items ≡ entry_marks (schema_in c) (length c.log + 1) (entry_of p)
  pub changes : r.changes.items ≡ changes_of (schema_in c) (length c.rows.docs) p.writes
  pub docs : r.docs.items ≡ new_docs p.writes
  pub fits : AllByRecursion (WriteFits (schema_in c)) p.writes
  pub entry : 0 < c.spare
  pub numbers : length c.rows.docs + length (new_docs p.writes) < 2 ^ 64
  pub versions : length (new_docs p.writes) ≤ c.rows.spare
  pub rows : (table index : ℕ) → length (changes_at table index r.changes.items) ≤ spare_at table index c.rows.tables

abbrev pub IsPrepared : State → Proposal → Prepared → Type 0
IsPrepared c p (Known ts reply) = kept p.call.session p.call.request c.log ≡ Some (ts, reply_view reply)
IsPrepared c p (Fresh room) = (kept p.call.session p.call.request c.log ≡ None) × IsRoom c p room

-- what a core prepared for a proposal, as it stands
abbrev pub IsReady : State → Proposal → Ready → Type 0
IsReady c p r = IsPrepared c p r.prepared
