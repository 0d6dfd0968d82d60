-- How the entries of a cache, the numbers of its owners and the tree of their ranges agree.
use Rattle.std.specs.Prelude.{◌≡◌, ℕ, ◌==◌, List, [], Option, Some, None, IfSome}
use Rattle.std.specs.List.{IsDistinct}
use Rattle.range_tree.specs.Ranges.{Owned}
use Rattle.cv_ranges.specs.Held.{Readings, HasRead, HoldsReads, KeepsOthers}
use Rattle.slab.specs.Slab.{Slab, get, Updates}
use Rattle.fn_tree.specs.declared.stop.Query.{Query}
use Rattle.cv_cache.specs.Numbers.{of_number, query_of, numbers_of}
use Rattle.cv_cache.specs.Owners.{IsFlagged}
use Rattle.cv_cache.specs.Recent.{Held}
use Rattle.cv_cache.specs.declared.entries.Entries.{Entries}
use Rattle.cv_cache.specs.declared.kept.Kept.{Kept}

-- what each number has read
abbrev pub reads_of : List Held → Readings
reads_of es n = of_number (λ e. e.1.reads) [] es n

-- each entry has a number of its own, the numbers are those of the entries, and the tree has what the entries have read
pub record IsTied (es : List Held) (queries : Slab Query) (tree : List Owned) : Type 0 where
  pub apart : IsDistinct ◌==◌ (numbers_of es)
  pub numbers : (n : ℕ) → get queries n ≡ query_of es n
  pub holds : HoldsReads tree (reads_of es)

-- the same, and no flag is up
pub record IsWell (e : Entries) : Type 0 where
  pub tied : IsTied e.recent e.owners.queries e.ranges
  pub flagged : IsFlagged e.owners

-- the tree has what was read by an entry that went, if one did
abbrev pub HasReadOf : List Owned → Option Kept → Type 0
HasReadOf tree gone = IfSome gone (λ k. HasRead tree k.owner k.reads)

-- the number and the ranges of an entry that went are free, if one did
abbrev pub GivesBack : Option Kept → (before after : Slab Query) → (old new : List Owned) → Type 0
GivesBack None before after old new = (after ≡ before) × (new ≡ old)
GivesBack (Some k) before after old new = Updates before after k.owner None × HasRead new k.owner [] × KeepsOthers k.owner old new
