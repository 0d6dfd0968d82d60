-- Where a run stands, and what a step of it does.
use Rattle.std.specs.Prelude.{◌≡◌, ◌≤◌, ◌<◌, ℕ, ◌+◌, ◌^◌, List, [], ◌∷◌, ◌++◌, length, map, take, slice_get, Option, Some}
use Rattle.cv_values.specs.Value.{Value}
use Rattle.cv_values.specs.declared.doc.Doc.{Doc}
use Rattle.cv_keys.specs.Intervals.{in_bytes}
use Rattle.cv_keys.specs.declared.interval.Interval.{Interval}
use Rattle.cv_keys.specs.declared.schema.Schema.{Schema}
use Rattle.cv_keys.specs.declared.schema.Table.{Table}
use Rattle.fn_check.specs.Rooms.{HasRoom}
use Rattle.fn_tree.specs.Actions.{Limits, Counts, Action, Scope, Site}
use Rattle.fn_tree.specs.Course.{Reply, failed, Course}
use Rattle.fn_tree.specs.Functions.{seen_after}
use Rattle.fn_tree.specs.Meaning.{Return}
use Rattle.fn_tree.specs.Run.{Played, played}
use Rattle.fn_tree.specs.SyntaxTree.{FunctionTree}
use Rattle.fn_tree.specs.SyntaxViews.{function_view}
use Rattle.fn_tree.specs.declared.stop.Put.{Put}
use Rattle.fn_plain.specs.declared.context.Context.{Context}
use Rattle.fn_plain.specs.declared.context.Counts.{Counts as HeldCounts}
use Rattle.fn_plain.specs.declared.context.Limits.{Limits as HeldLimits}
use Rattle.fn_plain.specs.declared.context.Progress.{Progress}
use Rattle.fn_plain.specs.declared.fault.Fault.{Fault}
use Rattle.fn_plain.specs.declared.fault.Fault.TheVariants.{Failed, Memory}

abbrev pub limits_of : HeldLimits → Limits
limits_of l = record { cost = l.cost; rows = l.rows; size = l.size; ranges = l.ranges; writes = l.writes; written = l.written; reply = l.reply }

abbrev pub counts_of : HeldCounts → Counts
counts_of c = record { cost = c.cost; rows = c.rows; size = c.size; ranges = c.ranges; writes = c.writes; written = c.written; inserts = c.inserts }

-- ---- sites

-- the site that sees these functions too
abbrev pub site_after : Site → List FunctionTree → Site
site_after site [] = site
site_after site (f ∷ fs) = site_after (seen_after site f) fs

-- the site that sees no function
abbrev pub first_site : Context → Site
first_site c = record { schema = c.schema.now; limits = limits_of c.limits; origin = c.origin; helpers = [] }

-- the site of the function of a number, which sees those before it
abbrev pub site_at : Context → ℕ → Site
site_at c n = site_after (first_site c) (take n (map function_view c.functions.now))

-- ---- ends

-- how a run ends, with its reads in bytes
pub record End : Type 0 where
  pub reply : Reply
  pub puts : List Put
  pub reads : List Interval
  pub cost : ℕ

abbrev pub after_reads : List Interval → Played → End
after_reads reads p = record { reply = p.reply; puts = p.puts; reads = reads ++ map in_bytes p.reads; cost = p.cost }

-- how a course ends that is followed from here
abbrev pub end_of : Context → Progress → Course → End
end_of c p course = after_reads p.reads.items (played c.schema.now c.base.now p.puts.items course)

-- how the run ends where an error comes here
abbrev pub error_end : Progress → List ℕ → End
error_end p why = record { reply = failed why; puts = p.puts.items; reads = p.reads.items; cost = p.counts.cost }

-- ---- steps

-- the counts are within the limits, and all numbers have room; there are at most so many inserts that aren't written yet
pub record IsWithin (begun : ℕ) (c : Context) (counts : HeldCounts) : Type 0 where
  pub cost : counts.cost ≤ c.limits.cost
  pub rows : counts.rows ≤ c.limits.rows
  pub size : counts.size ≤ c.limits.size
  pub ranges : counts.ranges ≤ c.limits.ranges
  pub writes : counts.writes ≤ c.limits.writes
  pub written : counts.written ≤ c.limits.written
  pub inserts : counts.inserts ≤ counts.writes + begun
  pub cost_room : c.limits.cost < 2 ^ 62
  pub rows_room : c.limits.rows < 2 ^ 62
  pub size_room : c.limits.size < 2 ^ 62
  pub ranges_room : c.limits.ranges < 2 ^ 62
  pub writes_room : c.limits.writes < 2 ^ 15
  pub written_room : c.limits.written < 2 ^ 62
  pub schema : HasRoom c.schema.now

-- an action gave this: whatever comes next, the run goes on from where it stands now
pub record Gives {A : Type 0} (c : Context) (old new : Progress) (action : Action A) (a : A) : Type 0 where
  pub within : IsWithin 0 c new.counts
  pub by : (next : A → Counts → Course) → end_of c old (action (counts_of old.counts) next) ≡ end_of c new (next a (counts_of new.counts))

-- an action ended the run with an error of this text
pub record EndsBy {A : Type 0} (c : Context) (old new : Progress) (action : Action A) (why : List ℕ) : Type 0 where
  pub by : (next : A → Counts → Course) → end_of c old (action (counts_of old.counts) next) ≡ error_end new why

-- an action ended the run with this fault
abbrev pub Fails : {A : Type 0} → Context → Progress → Progress → Action A → Fault → Type 0
Fails c old new action (Failed why) = EndsBy c old new action why
Fails c old new action Memory = Unit {0}

-- ---- statements

-- statements, given where their `return` goes
abbrev pub Statements : Type 0
Statements = Return → Action Scope

-- they were done, and left the variables so
pub record Leaves (c : Context) (old new : Progress) (ss : Statements) (scope : Scope) : Type 0 where
  pub within : IsWithin 0 c new.counts
  pub by : (back : Return) → (next : Scope → Counts → Course) → end_of c old (ss back (counts_of old.counts) next) ≡ end_of c new (next scope (counts_of new.counts))

-- they returned a value
pub record Returns (c : Context) (old new : Progress) (ss : Statements) (v : Value) : Type 0 where
  pub within : IsWithin 0 c new.counts
  pub by : (back : Return) → (next : Scope → Counts → Course) → end_of c old (ss back (counts_of old.counts) next) ≡ end_of c new (back v (counts_of new.counts))

-- they ended the run with an error of this text
pub record BreaksBy (c : Context) (old new : Progress) (ss : Statements) (why : List ℕ) : Type 0 where
  pub by : (back : Return) → (next : Scope → Counts → Course) → end_of c old (ss back (counts_of old.counts) next) ≡ error_end new why

abbrev pub Breaks : Context → Progress → Progress → Statements → Fault → Type 0
Breaks c old new ss (Failed why) = BreaksBy c old new ss why
Breaks c old new ss Memory = Unit {0}
