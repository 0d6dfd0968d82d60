-- What holds of each cache.
use Rattle.std.specs.Prelude.{◌≤◌, map, length}
use Rattle.std.specs.List.{IsDistinct}
use Rattle.cv_store.specs.Cache.{Cache, same_query, cache_entries}

-- no two entries are of one query, and there are not too many
pub record IsCache (es : Cache) : Type 0 where
  pub once : IsDistinct same_query (map (λ e. e.query) es)
  pub few : length es ≤ cache_entries
