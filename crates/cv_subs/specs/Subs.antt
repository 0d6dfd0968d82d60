-- The queries of a connection by their numbers, with what their last runs answered and read.
use Rattle.std.specs.Prelude.{ℕ, ◌<◌, Bool, true, false, ◌||◌, ◌&&◌, ◌==◌, nat_le, nat_lt, cond, List, [], ◌∷◌, Option, Some, None, option_and_then, option_map}
use Rattle.cv_keys.specs.declared.interval.Interval.{Interval}
use Rattle.cv_reads.specs.declared.mark.Mark.{Mark}
use Rattle.fn_tree.specs.Course.{Reply}
use Rattle.fn_tree.specs.declared.stop.Query.{Query}
use Rattle.cv_ranges.specs.Held.{Readings}
use Rattle.cv_ranges.specs.Hits.{is_touched}

-- a query with the result of its last run, what that run read, and whether it is stale
pub record Sub : Type 0 where
  pub query : Query
  pub result : Option Reply
  pub reads : List Interval
  pub stale : Bool

-- in rising order of the numbers
abbrev pub Subs : Type 0
Subs = List (ℕ × Sub)

-- a new query is stale until it has a result
abbrev pub new_sub : Query → Sub
new_sub q = record { query = q; result = None; reads = []; stale = true }

-- the query of a number
abbrev pub sub_at : ℕ → Subs → Option Sub
sub_at id [] = None
sub_at id (p ∷ subs) = cond (p.0 == id) (Some p.1) (sub_at id subs)

-- its last result, if it has one
abbrev pub result_at : ℕ → Subs → Option Reply
result_at id subs = option_and_then (λ s. s.result) (sub_at id subs)

-- what its last run read
abbrev pub reads_in : Option Sub → List Interval
reads_in None = []
reads_in (Some s) = s.reads

-- what the queries of all numbers read
abbrev pub reads_of : Subs → Readings
reads_of subs id = reads_in (sub_at id subs)

-- a query under a number, in place of one that stood there
abbrev pub with_sub : ℕ → Sub → Subs → Subs
with_sub id s [] = (id, s) ∷ []
with_sub id s (p ∷ subs) = cond (p.0 == id) ((id, s) ∷ subs) (cond (nat_lt id p.0) ((id, s) ∷ p ∷ subs) (p ∷ with_sub id s subs))

-- none under a number
abbrev pub without_sub : ℕ → Subs → Subs
without_sub id [] = []
without_sub id (p ∷ subs) = cond (p.0 == id) (without_sub id subs) (p ∷ without_sub id subs)

-- the query of a number changed, where it is there
abbrev pub changed : ℕ → (Sub → Sub) → Subs → Subs
changed id f [] = []
changed id f (p ∷ subs) = (p.0, cond (p.0 == id) (f p.1) p.1) ∷ changed id f subs

abbrev pub staled : Sub → Sub
staled s = record s { stale = true }

-- a run answered and read this
abbrev pub answered : Reply → List Interval → Sub → Sub
answered reply reads s = record { query = s.query; result = Some reply; reads = reads; stale = false }

-- a query is stale that was, or that a mark touches
abbrev pub advanced : List Mark → Sub → Sub
advanced marks s = record s { stale = s.stale || is_touched marks s.reads }

abbrev pub after_marks : List Mark → Subs → Subs
after_marks marks [] = []
after_marks marks (p ∷ subs) = (p.0, advanced marks p.1) ∷ after_marks marks subs

-- the least number of a stale query from a number on
abbrev pub next_stale : (from : ℕ) → Subs → Option ℕ
next_stale from [] = None
next_stale from (p ∷ subs) = cond (nat_le from p.0 && p.1.stale) (Some p.0) (next_stale from subs)

-- a number is below those of these queries
abbrev pub AllAbove : ℕ → Subs → Type 0
AllAbove id [] = Unit {0}
AllAbove id (p ∷ subs) = (id < p.0) × AllAbove id subs

-- each number is below those that follow it
abbrev pub IsRising : Subs → Type 0
IsRising [] = Unit {0}
IsRising (p ∷ subs) = AllAbove p.0 subs × IsRising subs
