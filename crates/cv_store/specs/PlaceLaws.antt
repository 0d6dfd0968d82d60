-- Touch by key bytes is touch by places; and what nothing touches stays.
use Rattle.std.specs.Prelude.{◌≡◌, ℕ, ◌≤◌, List, map, length, None}
use Rattle.cv_values.specs.Value.{Value}
use Rattle.cv_keys.specs.Intervals.{in_bytes}
use Rattle.cv_keys.specs.Places.{PlaceInterval}
use Rattle.cv_keys.specs.declared.schema.Schema.{Schema}
use Rattle.cv_reads.specs.FirstTouch.{first_touch as first_mark}
use Rattle.fn_tree.specs.CommitLaws.{IsUntouched}
use Rattle.fn_tree.specs.History.{History, IsLegal, query_start, docs_at}
use Rattle.fn_tree.specs.Run.{run}
use Rattle.fn_tree.specs.SyntaxTree.{ModuleTree}
use Rattle.cv_store.specs.FirstTouch.{first_touch, first_touch_places}
use Rattle.cv_store.specs.Ranges.{AreInRange}
use Rattle.cv_store.specs.Reads.{EndsInRange}
use Rattle.cv_store.specs.Stores.{schema_at}
use Rattle.cv_store.specs.Tails.{tail_from}

-- the first touch by key bytes is that by places
abbrev pub TouchesGoByPlaces : Type 0
TouchesGoByPlaces = (schema : Schema) (reads : List PlaceInterval) (h : History) (s : ℕ) → EndsInRange reads → AreInRange schema h
    → first_touch schema (map in_bytes reads) h s ≡ first_touch_places schema reads h s

-- where there is no first touch, no later entry touches an interval
abbrev pub NoneIsUntouched : Type 0
NoneIsUntouched = (schema : Schema) (reads : List PlaceInterval) (h : History) (s : ℕ) → first_touch_places schema reads h s ≡ None → IsUntouched schema reads h s

-- where no mark of the tail from a timestamp touches what a query read there, its run at the tail's end is that one
abbrev pub TailsLeaveRuns : Type 0
TailsLeaveRuns = (m : ModuleTree) (h : History) (udf : List ℕ) (args : List (List ℕ × Value)) (ts : ℕ) → IsLegal m h → AreInRange (schema_at m h (length h)) h → ts ≤ length h
    → let r = run m (query_start udf args) (docs_at h ts) in
    let t = tail_from (schema_at m h (length h)) h ts in
    EndsInRange r.reads → first_mark t.marks (map in_bytes r.reads) ≡ None → run m (query_start udf args) (docs_at h t.to) ≡ r
