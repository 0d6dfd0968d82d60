use Rattle.std.proofs.Common.{◌≡◌, ◌≢◌, ℕ, ◌<◌, ◌≤◌, List, Some, None, Option, length, take, drop, get_or, refl, sym, ap, ◌∙◌, subst, arith}
use Rattle.cv_subs.specs.Views.{shown, all_shown, IsAt, IsPlace}
use Rattle.cv_subs.specs.Subs.{Sub, Subs, new_sub, sub_at, with_sub, without_sub, changed, staled, answered, next_stale, IsRising}
use Rattle.cv_subs.proofs.records.Records.next_stale.Given as goal

abbrev pub invariant-loop-record : goal.invariant-loop-record
invariant-loop-record l = next_stale l.from (all_shown l.record-items) ≡ next_stale l.from (all_shown (drop l.record-index l.record-items))
