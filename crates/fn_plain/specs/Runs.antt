-- What a run begins with, and how it ends.
use Rattle.std.specs.Prelude.{◌≡◌, ◌<◌, ◌^◌, ℕ, List, map, take, slice_get, Option, option_map, option_and_then}
use Rattle.cv_keys.specs.Intervals.{in_bytes}
use Rattle.fn_tree.specs.Actions.{Meaning, Site}
use Rattle.fn_tree.specs.Course.{Reply, failed}
use Rattle.fn_tree.specs.EntryViews.{reply_view}
use Rattle.fn_tree.specs.Functions as plain
use Rattle.fn_tree.specs.Functions.{function_means}
use Rattle.fn_tree.specs.Run.{Run}
use Rattle.fn_tree.specs.SyntaxTree.{FunctionTree}
use Rattle.fn_tree.specs.declared.syntax.Named.{Named}
use Rattle.fn_plain.specs.States.{End, site_after}
use Rattle.fn_plain.specs.declared.context.Counts.{Counts}
use Rattle.fn_plain.specs.declared.context.Limits.{Limits}
use Rattle.fn_plain.specs.declared.context.Progress.{Progress}
use Rattle.fn_plain.specs.declared.fault.Fault.{Fault}
use Rattle.fn_plain.specs.declared.fault.Fault.TheVariants.{Failed, Memory}
use Rattle.fn_plain.specs.declared.runs.PlainRun.{PlainRun}
use Rattle.fn_plain.specs.declared.runs.Start.{Start}

abbrev pub start_view : Start → plain.Start
start_view s = record { udf = s.udf.now; args = s.args.now; origin = s.origin }

-- numbers within the limits can be counted
pub record LeavesRoom (l : Limits) : Type 0 where
  pub cost : l.cost < 2 ^ 62
  pub rows : l.rows < 2 ^ 62
  pub size : l.size < 2 ^ 62
  pub ranges : l.ranges < 2 ^ 62
  pub writes : l.writes < 2 ^ 15
  pub written : l.written < 2 ^ 62
  pub reply : l.reply < 2 ^ 62

-- what a run has used up at its start
abbrev pub unused : Counts
unused = record { cost = 0; rows = 0; size = 0; ranges = 0; writes = 0; written = 0; inserts = 0 }

-- a run that is over stands for a run of the definition
pub record IsRun (held : PlainRun) (r : Run) : Type 0 where
  pub reply : reply_view held.reply ≡ r.reply
  pub writes : held.writes ≡ r.writes
  pub reads : held.reads.items ≡ map in_bytes r.reads
  pub cost : held.cost ≡ r.cost

-- the parameters and the meaning of the function of a number, which sees those before it
abbrev pub function_at : Site → List FunctionTree → Option ℕ → Option (List Named × Meaning)
function_at site fs number =
    option_and_then (λ (n : ℕ). option_map (λ (f : FunctionTree). (f.params, function_means (site_after site (take n fs)) f)) (slice_get fs n)) number

-- how a run ends that has this reply here
abbrev pub reply_end : Progress → Reply → End
reply_end p reply = record { reply = reply; puts = p.puts.items; reads = p.reads.items; cost = p.counts.cost }

-- a run ends with this fault here; of want of memory nothing is said
abbrev pub EndsAs : Progress → Fault → End → Type 0
EndsAs p (Failed why) e = e ≡ reply_end p (failed why)
EndsAs p Memory e = Unit {0}
