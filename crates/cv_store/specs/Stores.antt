-- What a store means, and what one call may do to it.
use Rattle.std.specs.Prelude.{◌≡◌, ◌⊎◌, ℕ, ◌≤◌, List, [], ◌∷◌, ◌++◌, length, map, Option, Some, None, option_map}
use Rattle.cv_keys.specs.Intervals.{in_bytes}
use Rattle.cv_keys.specs.declared.interval.Interval.{Interval}
use Rattle.cv_keys.specs.declared.schema.Schema.{Schema}
use Rattle.cv_values.specs.declared.doc.Doc.{Doc}
use Rattle.fn_tree.specs.EntryViews.{reply_view}
use Rattle.fn_tree.specs.History.{Entry, History, IsLegal, start_of, query_start, docs_at}
use Rattle.fn_tree.specs.Run.{Run, run}
use Rattle.fn_tree.specs.Schemas.{schema_of}
use Rattle.fn_tree.specs.SyntaxTree.{ModuleTree}
use Rattle.fn_tree.specs.declared.entry.Reply.{Reply}
use Rattle.fn_tree.specs.declared.stop.Query.{Query}
use Rattle.cv_store.specs.Cache.{Cached, Cache, cached_at, after_look, Shows, after_keep, untouched_by}
use Rattle.cv_store.specs.FirstTouch.{first_touch}
use Rattle.cv_store.specs.Kept.{kept}
use Rattle.cv_store.specs.Marks.{entry_marks}
use Rattle.cv_store.specs.Ranges.{AreInRange}
use Rattle.cv_store.specs.Reads.{StoreRead, EndsInRange, read_from}
use Rattle.cv_store.specs.declared.look.Look.{Look}
use Rattle.cv_store.specs.declared.look.Look.TheVariants.{Hit, Miss}
use Rattle.cv_store.specs.declared.proposal.Begun.{Begun}
use Rattle.cv_store.specs.declared.proposal.Begun.TheVariants as begun
use Rattle.cv_store.specs.declared.proposal.Ended.{Ended}
use Rattle.cv_store.specs.declared.proposal.Ended.TheVariants as ended
use Rattle.cv_store.specs.declared.proposal.Proposal.{Proposal}
use Rattle.cv_store.specs.declared.turns.Turns.{Turns}

-- the name of what the store's log lies behind, as plain data
abbrev pub Name : Type 0
Name = List ℕ

-- the program's module, a name, the entries seen, the entries that this store appended, its cache where that is told, and how many atomic steps it took
pub record Standing : Type 0 where
  pub program : ModuleTree
  pub name : Name
  pub seen : History
  pub mine : History
  pub cache : Option Cache
  pub turns : Turns

-- the schema at a timestamp of a history: that of its module, whatever the entries are
abbrev pub schema_at : ModuleTree → History → (ts : ℕ) → Schema
schema_at m h ts = schema_of m.tables

-- the schema at the end of what was seen
abbrev pub schema_in : Standing → Schema
schema_in s = schema_at s.program s.seen (length s.seen)

-- what one read at a timestamp gives
abbrev pub read_at : Standing → (ts : ℕ) → StoreRead → List Doc
read_at s ts q = read_from (schema_at s.program s.seen ts) (docs_at s.seen ts) q

-- a history goes on to another
abbrev pub GoesOn : History → History → Type 0
GoesOn h k = (more : History) × (k ≡ h ++ more)

-- these entries stand among the others in order, each once
abbrev pub StandIn : History → History → Type 0
StandIn [] h = Unit {0}
StandIn (e ∷ es) [] = ⊥
StandIn (e ∷ es) (f ∷ h) = ((e ≡ f) × StandIn es h) ⊎ StandIn (e ∷ es) h

-- a call extends a store: module and name stay, what was seen goes on, is legal and in range, and the store's own entries are those before and these
pub record Extends (s t : Standing) (own : History) : Type 0 where
  pub program : t.program ≡ s.program
  pub name : t.name ≡ s.name
  pub seen : GoesOn s.seen t.seen
  pub legal : IsLegal t.program t.seen
  pub in_range : AreInRange (schema_in t) t.seen
  pub mine : t.mine ≡ s.mine ++ own
  pub stands : StandIn t.mine t.seen

-- the same, where nothing was appended and the cache stays
pub record Reads (s t : Standing) : Type 0 where
  pub extends : Extends s t []
  pub cache : t.cache ≡ s.cache

-- ---- runs

-- these are the reply and the reads of a run, whose intervals stand in bytes; their ends are some that the key order law speaks of
pub record IsAnswer (r : Run) (reply : Reply) (reads : List Interval) : Type 0 where
  pub same_reply : reply_view reply ≡ r.reply
  pub same_reads : reads ≡ map in_bytes r.reads
  pub ends : EndsInRange r.reads

-- the run of a query at a timestamp
abbrev pub query_run : Standing → Query → (ts : ℕ) → Run
query_run s q ts = run s.program (query_start q.udf q.args) (docs_at s.seen ts)

-- the proposal is the run of its call at its snapshot
pub record IsRunOf (s : Standing) (p : Proposal) : Type 0 where
  pub snapshot : p.snapshot ≤ length s.seen
  pub answer : IsAnswer (run s.program (start_of p.call) (docs_at s.seen p.snapshot)) p.reply p.reads
  pub writes : p.writes ≡ (run s.program (start_of p.call) (docs_at s.seen p.snapshot)).writes

-- the entry of a proposal
abbrev pub entry_of : Proposal → Entry
entry_of p = record { call = p.call; reply = reply_view p.reply; writes = p.writes }

-- ---- the answers

-- a call of a session's request begins: its reply where it has one in what was then seen, else the snapshot of all of that
abbrev pub Begins : Standing → (session request : ℕ) → Begun → Type 0
Begins t session request (begun.Fresh ts) = (kept session request t.seen ≡ None) × (ts ≡ length t.seen)
Begins t session request (begun.Known ts reply) = kept session request t.seen ≡ Some (ts, reply_view reply)

-- nothing was appended, for the reply or the touch in what was then seen
pub record Stays (s t : Standing) (p : Proposal) (known : Option (ℕ × Reply)) : Type 0 where
  pub reads : Reads s t
  pub same_reply : kept p.call.session p.call.request t.seen ≡ option_map (λ k. (k.0, reply_view k.1)) known

-- the proposal's entry was appended to entries that had none of its session's request, and none that touches what it read
pub record Appends (s t : Standing) (p : Proposal) (before : History) : Type 0 where
  pub extends : Extends s t (entry_of p ∷ [])
  pub seen : GoesOn s.seen before
  pub last : t.seen ≡ before ++ entry_of p ∷ []
  pub new : kept p.call.session p.call.request before ≡ None
  pub untouched : first_touch (schema_in s) p.reads before p.snapshot ≡ None
  pub cache : t.cache ≡ option_map (untouched_by (entry_marks (schema_in s) (length t.seen) (entry_of p))) s.cache

abbrev pub Commits : (s t : Standing) → Proposal → Ended → Type 0
Commits s t p (ended.Committed ts) = (before : History) × Appends s t p before × (ts ≡ length t.seen)
Commits s t p (ended.Known ts reply) = Stays s t p (Some (ts, reply))
Commits s t p (ended.SentBack c) = Stays s t p None × (first_touch (schema_in s) p.reads t.seen p.snapshot ≡ Some c)

-- a hit gives the run of the query at the timestamp, and no entry after it touches what was read
abbrev pub Looks : (s t : Standing) → Query → (ts : ℕ) → Look → Type 0
Looks s t q ts (Hit reply reads) = IsAnswer (query_run s q ts) reply reads × (first_touch (schema_in s) reads t.seen ts ≡ None)
Looks s t q ts Miss = Unit {0}

-- where the cache is told, a look answers by it
abbrev pub LooksIn : Option Cache → Option Cache → Query → (ts : ℕ) → Look → Type 0
LooksIn None after q ts look = after ≡ None
LooksIn (Some es) after q ts look = Shows look (cached_at q ts es) × (after ≡ Some (after_look (cached_at q ts es) es))

-- the entry that a kept answer makes
abbrev pub cached : Query → (ts : ℕ) → Reply → List Interval → Cached
cached q ts reply reads = record { query = q; ts = ts; reply = reply_view reply; reads = reads }

-- where the cache is told, an answer is kept there
abbrev pub Keeps : (s t : Standing) → Cached → Type 0
Keeps s t e = t.cache ≡ option_map (after_keep (schema_in s) t.seen e) s.cache
