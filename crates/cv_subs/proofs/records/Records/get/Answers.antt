use Rattle.std.proofs.Common.{◌≡◌, ◌≢◌, ℕ, ◌<◌, ◌≤◌, List, Some, None, Option, true, length, take, drop, get_or, refl, sym, ap, ◌∙◌, subst, arith}
use Rattle.std.specs.Prelude.{◌↔◌, IsTrue, IsSome, option_map, option_and_then, slice_set}
use Rattle.cv_subs.specs.Views.{shown, all_shown, IsAt, IsPlace}
use Rattle.cv_subs.specs.Subs.{Sub, Subs, new_sub, sub_at, result_at, reads_of, with_sub, without_sub, changed, staled, answered, after_marks, IsRising}
use Rattle.cv_subs.specs.declared.record.Record.{Record}
use Rattle.cv_subs.proofs.Places.{sub_found, sub_absent, found_is}
use Rattle.cv_subs.proofs.records.Records.get.Goals as goal

pub returns-in-Ok : goal.returns-in-Ok
returns-in-Ok c =
    let items = c.self.inside.list.items in
    let v : all_shown items ≡ c.args.self.now = c.self.view_is in
    let a : IsAt c.args.id c.in-Ok.at items = rw (c.from.ensures, c.as_slice-list.ensures.value) at c.in-Ok.ensures in
    let r = c.index-list-at.result in
    let is : r ≡ get_or items c.in-Ok.at r = rw c.as_slice-list.ensures.value at c.index-list-at.is in
    let same : a.found ≡ r = found_is items c.in-Ok.at a.found r a.here is in
    let there = sub_found c.args.id a.found a.same items c.in-Ok.at c.self.invariant.0 a.here in
    sym (subst (λ (l : Subs). sub_at c.args.id l ≡ Some (shown r).1) v (there ∙ ap (λ (s : Record). Some (shown s).1) same))

pub returns-in-Err : goal.returns-in-Err
returns-in-Err c =
    let items = c.self.inside.list.items in
    let v : all_shown items ≡ c.args.self.now = c.self.view_is in
    let p : IsPlace c.args.id c.in-Err.field-0 items = rw (c.from.ensures, c.as_slice-list.ensures.value) at c.in-Err.ensures in
    sym (subst (λ (l : Subs). sub_at c.args.id l ≡ None) v (sub_absent c.args.id items c.in-Err.field-0 p.below p.above))
