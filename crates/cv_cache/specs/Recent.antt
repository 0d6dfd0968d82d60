-- The entries of a cache with the numbers that own their ranges, the one used last first.
use Rattle.std.specs.Prelude.{ℕ, ◌-◌, ◌≤◌, Bool, not, List, ◌∷◌, length, filter, take, slice_get, Option, Some, option_map}
use Rattle.std.specs.Coded.{Coded, coded×, coded_list}
use Rattle.std.specs.List.{IsDistinct}
use Rattle.std.specs.Map.{keys_of, lookup}
use Rattle.std.specs.Option.{option_map_or}
use Rattle.cv_cache.specs.contracts.kept.Kept as kept
use Rattle.cv_cache.specs.declared.kept.Kept.{Kept}
use Rattle.cv_store.specs.Cache.{same_query, cache_entries}
use Rattle.fn_tree.specs.contracts.stop.Query as query
use Rattle.fn_tree.specs.declared.stop.Query.{Query}

-- a query with what is kept of it
abbrev pub Held : Type 0
Held = Query × Kept

abbrev pub held_code : Coded (List Held)
held_code = coded_list (coded× query.the_row.coded kept.the_row.coded)

-- no two entries are of one query, and there are not too many
pub record IsRecent (es : List Held) : Type 0 where
  pub distinct : IsDistinct same_query (keys_of es)
  pub few : length es ≤ cache_entries

-- the entries of other queries
abbrev pub without : Query → List Held → List Held
without q es = filter (λ e. not (same_query q e.0)) es

-- with the entry of the query first, where there is one
abbrev pub used_again : Query → List Held → List Held
used_again q es = option_map_or (λ k. (q, k) ∷ without q es) (lookup (same_query q) es) es

-- with an entry first, in place of its query's, and not too many
abbrev pub put_first : Query → Kept → List Held → List Held
put_first q k es = take cache_entries ((q, k) ∷ without q es)

-- what that leaves out: the entry of the query, or the last where there are as many as may be
abbrev pub gone_for : Query → List Held → Option Kept
gone_for q es = option_map_or (λ k. Some k) (lookup (same_query q) es) (option_map (λ e. e.1) (slice_get es (cache_entries - 1)))

-- the entries whose numbers don't pass
abbrev pub untouched : (ℕ → Bool) → List Held → List Held
untouched touched es = filter (λ e. not (touched e.1.owner)) es
