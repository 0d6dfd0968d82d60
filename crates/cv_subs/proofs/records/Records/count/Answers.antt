use Rattle.std.proofs.Common.{◌≡◌, ◌≢◌, ℕ, ◌<◌, ◌≤◌, List, Some, None, Option, true, length, take, drop, get_or, refl, sym, ap, ◌∙◌, subst, arith}
use Rattle.std.specs.Prelude.{◌↔◌, IsTrue, IsSome, option_map, option_and_then, slice_set}
use Rattle.cv_subs.specs.Views.{shown, all_shown, IsAt, IsPlace}
use Rattle.cv_subs.specs.Subs.{Sub, Subs, new_sub, sub_at, result_at, reads_of, with_sub, without_sub, changed, staled, answered, after_marks, IsRising}
use Rattle.cv_subs.specs.declared.record.Record.{Record}
use Rattle.cv_subs.proofs.Places.{length_shown}
use Rattle.cv_subs.proofs.records.Records.count.Goals as goal

pub returns-clause-count : goal.returns-clause-count
returns-clause-count c =
    let items = c.self.inside.list.items in
    let v : all_shown items ≡ c.args.self.now = c.self.view_is in
    ap length c.as_slice.ensures.value ∙ (sym (length_shown items) ∙ ap length v)
