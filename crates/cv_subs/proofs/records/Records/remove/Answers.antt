use Rattle.std.proofs.Common.{◌≡◌, ◌≢◌, ℕ, ◌<◌, ◌≤◌, List, Some, None, Option, true, length, take, drop, get_or, refl, sym, ap, ◌∙◌, subst, arith}
use Rattle.std.specs.Prelude.{◌↔◌, IsTrue, IsSome, option_map, option_and_then, remove}
use Rattle.cv_subs.specs.Views.{shown, all_shown, IsAt, IsPlace}
use Rattle.cv_subs.specs.Subs.{Sub, Subs, new_sub, sub_at, result_at, reads_of, with_sub, without_sub, changed, staled, answered, after_marks, IsRising}
use Rattle.cv_subs.specs.declared.record.Record.{Record}
use Rattle.cv_subs.proofs.Places.{sub_found, removed_found, sub_absent, kept_absent, found_is}
use Rattle.cv_subs.proofs.Rising.{rising_without}
use Rattle.cv_subs.proofs.records.Records.remove.Goals as goal

taken : (id k : ℕ) (items new : List Record) → IsRising (all_shown items) → IsAt id k items → new ≡ remove items k → all_shown new ≡ without_sub id (all_shown items)
taken id k items new rising a out = ap all_shown out ∙ removed_found id a.found a.same items k rising a.here

pub invariant_of-self : goal.invariant_of-self
invariant_of-self c =
    let list = c.self.inside.list in
    let a : IsAt c.args.id c.in-Ok.at list.items = rw (c.from.ensures, c.as_slice.ensures.value) at c.in-Ok.ensures in
    let e = taken c.args.id c.in-Ok.at list.items c.remove-reads.new.self.items c.self.invariant.0 a c.remove-reads.ensures.items in (
      subst IsRising (sym e) (rising_without c.args.id (all_shown list.items) c.self.invariant.0),
      omega (arith, c.remove-reads.ensures.len, c.self.invariant.1),
      omega (arith, c.remove-reads.ensures.capacity, c.self.invariant.2),
    )

pub returns-in-Err-clause-queries : goal.returns-in-Err-clause-queries
returns-in-Err-clause-queries c =
    let items = c.self.inside.list.items in
    let v : all_shown items ≡ c.args.self.now = c.self.view_is in
    let p : IsPlace c.args.id c.in-Err.field-0 items = rw (c.from.ensures, c.as_slice.ensures.value) at c.in-Err.ensures in
    subst (λ (l : Subs). l ≡ without_sub c.args.id l) v (sym (kept_absent c.args.id items c.in-Err.field-0 p.below p.above))

pub returns-in-Err-clause-reads : goal.returns-in-Err-clause-reads
returns-in-Err-clause-reads c =
    let items = c.self.inside.list.items in
    let v : all_shown items ≡ c.args.self.now = c.self.view_is in
    let p : IsPlace c.args.id c.in-Err.field-0 items = rw (c.from.ensures, c.as_slice.ensures.value) at c.in-Err.ensures in
    let none = subst (λ (l : Subs). sub_at c.args.id l ≡ None) v (sub_absent c.args.id items c.in-Err.field-0 p.below p.above) in
    sym (ap (option_map (λ s. s.reads)) none)

pub returns-in-Ok-clause-queries : goal.returns-in-Ok-clause-queries
returns-in-Ok-clause-queries c =
    let list = c.self.inside.list in
    let v : all_shown list.items ≡ c.args.self.now = c.self.view_is in
    let a : IsAt c.args.id c.in-Ok.at list.items = rw (c.from.ensures, c.as_slice.ensures.value) at c.in-Ok.ensures in
    taken c.args.id c.in-Ok.at list.items c.remove-reads.new.self.items c.self.invariant.0 a c.remove-reads.ensures.items ∙ ap (without_sub c.args.id) v

pub returns-in-Ok-clause-reads : goal.returns-in-Ok-clause-reads
returns-in-Ok-clause-reads c =
    let list = c.self.inside.list in
    let v : all_shown list.items ≡ c.args.self.now = c.self.view_is in
    let a : IsAt c.args.id c.in-Ok.at list.items = rw (c.from.ensures, c.as_slice.ensures.value) at c.in-Ok.ensures in
    let r = c.remove-reads.result in
    let same : a.found ≡ r = found_is list.items c.in-Ok.at a.found r a.here c.remove-reads.ensures.value in
    let there = sub_found c.args.id a.found a.same list.items c.in-Ok.at c.self.invariant.0 a.here in
    sym (ap (option_map (λ s. s.reads)) (sym (ap (sub_at c.args.id) v) ∙ there) ∙ ap (λ (s : Record). Some s.reads) same)
