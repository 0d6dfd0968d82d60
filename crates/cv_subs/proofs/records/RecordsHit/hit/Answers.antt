use Rattle.std.proofs.Common.{◌≡◌, ◌≢◌, ℕ, ◌<◌, ◌≤◌, List, Some, None, Option, true, length, take, drop, get_or, refl, sym, ap, ◌∙◌, subst, arith}
use Rattle.std.specs.Prelude.{◌↔◌, IsTrue, IsSome, option_map, option_and_then, slice_set}
use Rattle.cv_subs.specs.Views.{shown, all_shown, IsAt, IsPlace}
use Rattle.cv_subs.specs.Subs.{Sub, Subs, new_sub, sub_at, result_at, reads_of, with_sub, without_sub, changed, staled, answered, after_marks, IsRising}
use Rattle.cv_subs.specs.declared.record.Record.{Record}
use Rattle.cv_subs.proofs.Places.{set_found, unchanged_absent, found_is}
use Rattle.cv_subs.proofs.Rising.{rising_changed}
use Rattle.cv_subs.proofs.records.RecordsHit.hit.Goals as goal

-- the record that was found, stale
staled_there : (id k : ℕ) (old : Record) (items : List Record) → IsRising (all_shown items) → IsAt id k items → old ≡ get_or items k old
    → all_shown (slice_set items k (record old { stale = true })) ≡ changed id staled (all_shown items)
staled_there id k old items rising a is =
    let same : a.found ≡ old = found_is items k a.found old a.here is in
    let n : old.id ≡ id = ap (λ (r : Record). r.id) (sym same) ∙ a.same in
    let shows : ◌≡◌ {A = ℕ × Sub} (shown (record old { stale = true })) (id, staled (shown a.found).1) = λ i. (n i, staled (shown (sym same i)).1) in
    set_found id a.found a.same staled (record old { stale = true }) shows items k rising a.here

pub invariant_of-self : goal.invariant_of-self
invariant_of-self c =
    let items = c.self.inside.list.items in
    let a : IsAt c.args.owner c.in-Ok.at items = rw c.as_slice.ensures.value at c.in-Ok.ensures in
    let e = staled_there c.args.owner c.in-Ok.at c.index_mut.result.now items c.self.invariant.0 a c.index_mut.ensures.value in
    (subst IsRising (sym e) (rising_changed c.args.owner staled (all_shown items) c.self.invariant.0), c.self.invariant.1, c.self.invariant.2)

pub returns-in-Ok : goal.returns-in-Ok
returns-in-Ok c =
    let items = c.self.inside.list.items in
    let v : all_shown items ≡ c.args.self.now = c.self.view_is in
    let a : IsAt c.args.owner c.in-Ok.at items = rw c.as_slice.ensures.value at c.in-Ok.ensures in
    staled_there c.args.owner c.in-Ok.at c.index_mut.result.now items c.self.invariant.0 a c.index_mut.ensures.value ∙ ap (changed c.args.owner staled) v

pub returns-in_default : goal.returns-in_default
returns-in_default c =
    let items = c.self.inside.list.items in
    let v : all_shown items ≡ c.args.self.now = c.self.view_is in
    let p : IsPlace c.args.owner c.in_default.field-0 items = rw c.as_slice.ensures.value at c.in_default.ensures in
    subst (λ (l : Subs). l ≡ changed c.args.owner staled l) v (sym (unchanged_absent c.args.owner staled items c.in_default.field-0 p.below p.above))
