-- The cache of a store: kept answers of queries, the one used last first.
use Rattle.std.specs.Prelude.{◌≡◌, ℕ, Bool, false, not, ◌&&◌, ◌||◌, nat_le, nat_lt, cond, is_none, List, [], ◌∷◌, filter, take, Option, Some, None}
use Rattle.std.specs.Ordering.{eq_by_cmp}
use Rattle.std.specs.Str.{bytes_eq}
use Rattle.cv_values.specs.Order.{compare}
use Rattle.cv_values.specs.Value.{object, members_of}
use Rattle.cv_keys.specs.declared.interval.Interval.{Interval}
use Rattle.cv_keys.specs.declared.schema.Schema.{Schema}
use Rattle.cv_reads.specs.FirstTouch.{first_touch as touched_by}
use Rattle.cv_reads.specs.declared.mark.Mark.{Mark}
use Rattle.fn_tree.specs.Course.{Reply}
use Rattle.fn_tree.specs.EntryViews.{reply_view}
use Rattle.fn_tree.specs.History.{History}
use Rattle.fn_tree.specs.declared.stop.Query.{Query}
use Rattle.cv_store.specs.FirstTouch.{first_touch}
use Rattle.cv_store.specs.declared.look.Look.{Look}
use Rattle.cv_store.specs.declared.look.Look.TheVariants.{Hit, Miss}

-- the run of a query on the documents of a timestamp: its reply and what it read
pub record Cached : Type 0 where
  pub query : Query
  pub ts : ℕ
  pub reply : Reply
  pub reads : List Interval

-- at most one entry of a query
abbrev pub Cache : Type 0
Cache = List Cached

-- the most entries
abbrev pub cache_entries : ℕ
cache_entries = 1024

abbrev pub same_query : Query → Query → Bool
same_query q r = bytes_eq q.udf r.udf && eq_by_cmp compare (object (members_of q.args)) (object (members_of r.args))

-- the entry of the query with a timestamp of at most ts
abbrev pub cached_at : Query → (ts : ℕ) → Cache → Option Cached
cached_at q ts [] = None
cached_at q ts (e ∷ es) = cond (same_query q e.query && nat_le e.ts ts) (Some e) (cached_at q ts es)

-- an entry as the one used last, in place of its query's
abbrev pub used : Cached → Cache → Cache
used e es = e ∷ filter (λ f. not (same_query e.query f.query)) es

-- a hit uses its entry, a miss changes nothing
abbrev pub after_look : Option Cached → Cache → Cache
after_look None es = es
after_look (Some e) es = used e es

-- a look answered the reply and the reads of this entry, or that there is none
abbrev pub Shows : Look → Option Cached → Type 0
Shows (Hit reply reads) None = ⊥
Shows (Hit reply reads) (Some e) = (reply_view reply ≡ e.reply) × (reads ≡ e.reads)
Shows Miss None = Unit {0}
Shows Miss (Some e) = ⊥

-- there is an entry of the query with a later timestamp
abbrev pub has_later : Query → (ts : ℕ) → Cache → Bool
has_later q ts [] = false
has_later q ts (e ∷ es) = (same_query q e.query && nat_lt ts e.ts) || has_later q ts es

-- an entry is kept unless a later one of its query is there; where there is one too many, the one used longest ago goes
abbrev pub with_cached : Cached → Cache → Cache
with_cached e es = cond (has_later e.query e.ts es) es (take cache_entries (used e es))

-- the same, where no entry after its timestamp touches what was read
abbrev pub after_keep : Schema → History → Cached → Cache → Cache
after_keep schema seen e es = cond (is_none (first_touch schema e.reads seen e.ts)) (with_cached e es) es

-- the entries that no mark touches
abbrev pub untouched_by : List Mark → Cache → Cache
untouched_by marks es = filter (λ e. is_none (touched_by marks e.reads)) es
