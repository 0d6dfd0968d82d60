-- What a record of the list stands for, and where a number stands in the list.
use Rattle.std.specs.Prelude.{◌≡◌, ℕ, ◌<◌, ◌≤◌, List, [], ◌∷◌, map, length, take, drop, slice_get, Some, option_map}
use Rattle.fn_tree.specs.EntryViews.{reply_view}
use Rattle.cv_subs.specs.Subs.{Sub, Subs, AllAbove}
use Rattle.cv_subs.specs.declared.record.Record.{Record}

-- its number and its query
abbrev pub shown : Record → ℕ × Sub
shown r = (r.id, record { query = r.query; result = option_map reply_view r.result; reads = r.reads; stale = r.stale })

abbrev pub all_shown : List Record → Subs
all_shown [] = []
all_shown (r ∷ rs) = shown r ∷ all_shown rs

-- the numbers of these are below one
abbrev pub AllBelow : ℕ → List Record → Type 0
AllBelow id [] = Unit {0}
AllBelow id (r ∷ rs) = (r.id < id) × AllBelow id rs

-- the query of a number stands here
pub record IsAt (id k : ℕ) (rs : List Record) : Type 0 where
  pub within : k < length rs
  pub found : Record
  pub here : slice_get rs k ≡ Some found
  pub same : found.id ≡ id

-- a number that isn't there would stand here
pub record IsPlace (id k : ℕ) (rs : List Record) : Type 0 where
  pub within : k ≤ length rs
  pub below : AllBelow id (take k rs)
  pub above : AllAbove id (all_shown (drop k rs))
