-- The cache and the first touch, worked out.
use Rattle.std.specs.Prelude.{◌≡◌, ℕ, pos, true, false, List, [], ◌∷◌, Some, None, codes}
use Rattle.cv_values.specs.Value.{int}
use Rattle.cv_keys.specs.Intervals.{in_bytes}
use Rattle.cv_keys.specs.Places.{below, above, PlaceInterval}
use Rattle.cv_keys.specs.declared.interval.Interval.{Interval}
use Rattle.cv_keys.specs.declared.schema.Index.{Index}
use Rattle.cv_keys.specs.declared.schema.Schema.{Schema}
use Rattle.cv_keys.specs.declared.write.Write.{Write}
use Rattle.cv_reads.specs.declared.mark.Mark.{Mark}
use Rattle.fn_tree.specs.Course.{gives}
use Rattle.fn_tree.specs.ExampleDocuments.{id_of, numbered}
use Rattle.fn_tree.specs.History.{Entry, History}
use Rattle.fn_tree.specs.declared.stop.Query.{Query}
use Rattle.cv_store.specs.Cache.{Cached, cache_entries, cached_at, used, with_cached, after_keep, untouched_by}
use Rattle.cv_store.specs.FirstTouch.{first_touch, first_touch_places}
use Rattle.cv_store.specs.Kept.{kept}

abbrev by_v : Index
by_v = record { name = codes "by_v"; fields = codes "v" ∷ [] }

-- one table with two indexes of v
abbrev schema : Schema
schema = record { tables = record { name = codes "t"; indexes = by_v ∷ by_v ∷ [] } ∷ [] }

abbrev whole_place : (table : ℕ) → PlaceInterval
whole_place table = record { table = table; index = 1; lo = below []; hi = above [] }

abbrev whole : Interval
whole = in_bytes (whole_place 0)

abbrev logged : (request : ℕ) → List Write → Entry
logged request writes = record {
  call = record { session = 7; request = request; udf = codes "f"; args = []; now = pos 0 };
  reply = gives (int (pos request));
  writes = writes;
}

-- an insert, and then a change of that document
abbrev log : History
log =
    logged 1 (record { id = id_of 1 0; old = None; new = Some (numbered 1 10) } ∷ [])
    ∷ logged 2 (record { id = id_of 1 0; old = Some (numbered 1 10); new = Some (record (numbered 1 10) { fields = (codes "v", int (pos 9)) ∷ [] }) } ∷ []) ∷ []

abbrev pub AreWorkedTouches : Type 0
AreWorkedTouches =
    (first_touch schema (whole ∷ []) log 0 ≡ Some (record { ts = 1; write = 0; fresh = true; table = 0; index = 1; range = 0 }))
    × (first_touch schema (whole ∷ []) log 1 ≡ Some (record { ts = 2; write = 0; fresh = false; table = 0; index = 1; range = 0 }))
    × (first_touch schema (whole ∷ []) log 2 ≡ None)
    × (first_touch_places schema (whole_place 1 ∷ []) log 0 ≡ None)
    × (kept 7 2 log ≡ Some (2, gives (int (pos 2))))
    × (kept 7 3 log ≡ None)

-- an answer of the query of a number at a timestamp
abbrev answered : (n ts v : ℕ) → List Interval → Cached
answered n ts v reads = record { query = record { udf = codes "q"; args = (codes "n", int (pos n)) ∷ [] }; ts = ts; reply = gives (int (pos v)); reads = reads }

abbrev asked : ℕ → Query
asked n = record { udf = codes "q"; args = (codes "n", int (pos n)) ∷ [] }

abbrev span : (lo hi : ℕ) → Interval
span lo hi = record { table = 0; index = 1; lo = lo ∷ []; hi = hi ∷ [] }

abbrev mark_at : ℕ → Mark
mark_at k = record { ts = 1; write = 0; fresh = true; table = 0; index = 1; key = k ∷ [] }

abbrev pub AreWorkedCaches : Type 0
AreWorkedCaches =
    (cache_entries ≡ 1024)
    × (cached_at (asked 1) 3 (answered 1 3 5 [] ∷ []) ≡ Some (answered 1 3 5 []))
    × (cached_at (asked 1) 2 (answered 1 3 5 [] ∷ []) ≡ None)
    × (cached_at (asked 1) 3 (answered 2 3 5 [] ∷ []) ≡ None)
    × (used (answered 1 3 5 []) (answered 2 3 6 [] ∷ answered 1 3 5 [] ∷ []) ≡ answered 1 3 5 [] ∷ answered 2 3 6 [] ∷ [])
    × (with_cached (answered 1 3 8 []) (answered 1 3 5 [] ∷ []) ≡ answered 1 3 8 [] ∷ [])
    × (with_cached (answered 1 3 8 []) (answered 1 4 5 [] ∷ []) ≡ answered 1 4 5 [] ∷ [])
    × (untouched_by (mark_at 17 ∷ []) (answered 1 3 5 (span 10 20 ∷ []) ∷ answered 2 3 6 (span 20 30 ∷ []) ∷ []) ≡ answered 2 3 6 (span 20 30 ∷ []) ∷ [])
    × (after_keep schema log (answered 1 1 5 (whole ∷ [])) [] ≡ [])
    × (after_keep schema log (answered 1 2 5 (whole ∷ [])) [] ≡ answered 1 2 5 (whole ∷ []) ∷ [])
