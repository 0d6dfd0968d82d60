-- The plain state that a machine stands for.
use Rattle.std.specs.Prelude.{map, reverse, Option, Some, None}
use Rattle.fn_code.specs.States.{Frame, State, Next, on, ends}
use Rattle.fn_code.specs.Steps.{Terms}
use Rattle.fn_tree.specs.Actions.{Counts, Limits}
use Rattle.fn_tree.specs.Course.{Outcome}
use Rattle.fn_tree.specs.EntryViews.{reply_view}
use Rattle.fn_tree.specs.declared.stop.Outcome.{Outcome as HeldOutcome}
use Rattle.fn_vm.specs.declared.counts.Counts.{Counts as HeldCounts}
use Rattle.fn_vm.specs.declared.counts.Limits.{Limits as HeldLimits}
use Rattle.fn_vm.specs.declared.frame.Frame.{Frame as HeldFrame}
use Rattle.fn_vm.specs.declared.run.Run.{Run}
use Rattle.fn_vm.specs.declared.run.Terms.{Terms as HeldTerms}

abbrev pub frame_view : HeldFrame → Frame
frame_view f = record { at = f.at; vars = f.vars; stack = f.stack; loops = f.loops }

abbrev pub counts_view : HeldCounts → Counts
counts_view c = record { cost = c.cost; rows = c.rows; size = c.size; ranges = c.ranges; writes = c.writes; written = c.written; inserts = c.inserts }

abbrev pub limits_view : HeldLimits → Limits
limits_view l = record { cost = l.cost; rows = l.rows; size = l.size; ranges = l.ranges; writes = l.writes; written = l.written; reply = l.reply }

abbrev pub terms_view : HeldTerms → Terms
terms_view t = record { limits = limits_view t.limits; origin = t.origin }

abbrev pub state_view : Run → State
state_view r = record { frame = frame_view r.frame; callers = reverse (map frame_view r.callers.items); counts = counts_view r.counts }

abbrev pub outcome_view : HeldOutcome → Outcome
outcome_view o = record { reply = reply_view o.reply; cost = o.cost }

-- where a run went: on to a state, or to its end
abbrev pub went : Option HeldOutcome → State → Next
went None s = on s
went (Some o) s = ends (outcome_view o)

-- where a unit of cost was spent, the run goes on
abbrev pub spent : Option HeldOutcome → State → (State → Next) → Next
spent None s next = next s
spent (Some o) s next = ends (outcome_view o)
