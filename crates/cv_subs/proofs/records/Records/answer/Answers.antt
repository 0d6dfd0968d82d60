use Rattle.std.proofs.Common.{◌≡◌, ◌≢◌, ℕ, ◌<◌, ◌≤◌, List, Some, None, Option, true, length, take, drop, get_or, refl, sym, ap, ◌∙◌, subst, arith}
use Rattle.std.specs.Prelude.{◌↔◌, IsTrue, IsSome, option_map, option_and_then, slice_set}
use Rattle.cv_subs.specs.Views.{shown, all_shown, IsAt, IsPlace}
use Rattle.cv_subs.specs.Subs.{Sub, Subs, new_sub, sub_at, result_at, reads_of, with_sub, without_sub, changed, staled, answered, after_marks, IsRising}
use Rattle.cv_subs.specs.declared.record.Record.{Record}
use Rattle.fn_tree.specs.Course.{Reply}
use Rattle.fn_tree.specs.EntryViews.{reply_view}
use Rattle.cv_subs.proofs.Chosen.{lost}
use Rattle.cv_subs.proofs.Places.{sub_found, set_found, sub_absent, found_is}
use Rattle.cv_subs.proofs.Rising.{rising_changed}
use Rattle.cv_subs.proofs.records.Records.answer.Goals as goal

pub unreachable-requires : goal.unreachable-requires
unreachable-requires c =
    let items = c.self.inside.list.items in
    let v : all_shown items ≡ c.args.self.now = c.self.view_is in
    let p : IsPlace c.args.id c.in_default.field-0 items = rw (c.from.ensures, c.as_slice.ensures.value) at c.in_default.ensures in
    let none = subst (λ (l : Subs). sub_at c.args.id l ≡ None) v (sub_absent c.args.id items c.in_default.field-0 p.below p.above) in
    lost (sub_at c.args.id c.args.self.now) none c.requires

-- a record in place of the one that was found
answered_there : (id k : ℕ) (f : Sub → Sub) (old new : Record) (items : List Record) → IsRising (all_shown items) → IsAt id k items → old ≡ get_or items k old → shown new ≡ (old.id, f (shown old).1)
    → all_shown (slice_set items k new) ≡ changed id f (all_shown items)
answered_there id k f old new items rising a is put =
    let same : a.found ≡ old = found_is items k a.found old a.here is in
    let n : old.id ≡ id = ap (λ (r : Record). r.id) (sym same) ∙ a.same in
    let shows : ◌≡◌ {A = ℕ × Sub} (shown new) (id, f (shown a.found).1) = put ∙ (λ i. (n i, f (shown (sym same i)).1)) in
    set_found id a.found a.same f new shows items k rising a.here

pub invariant_of-self : goal.invariant_of-self
invariant_of-self c =
    let items = c.self.inside.list.items in
    let a : IsAt c.args.id c.in-Ok.at items = rw (c.from.ensures, c.as_slice.ensures.value) at c.in-Ok.ensures in
    let f : Sub → Sub = answered (reply_view c.args.reply) c.args.reads in
    let e = answered_there c.args.id c.in-Ok.at f c.index_mut.result.now c.answer.new.self items c.self.invariant.0 a c.index_mut.ensures.value c.answer.ensures.«record» in
    (subst IsRising (sym e) (rising_changed c.args.id f (all_shown items) c.self.invariant.0), c.self.invariant.1, c.self.invariant.2)

pub returns-clause-queries : goal.returns-clause-queries
returns-clause-queries c =
    let items = c.self.inside.list.items in
    let v : all_shown items ≡ c.args.self.now = c.self.view_is in
    let a : IsAt c.args.id c.in-Ok.at items = rw (c.from.ensures, c.as_slice.ensures.value) at c.in-Ok.ensures in
    let f : Sub → Sub = answered (reply_view c.args.reply) c.args.reads in
    answered_there c.args.id c.in-Ok.at f c.index_mut.result.now c.answer.new.self items c.self.invariant.0 a c.index_mut.ensures.value c.answer.ensures.«record» ∙ ap (changed c.args.id f) v

pub returns-clause-news : goal.returns-clause-news
returns-clause-news c =
    let items = c.self.inside.list.items in
    let v : all_shown items ≡ c.args.self.now = c.self.view_is in
    let a : IsAt c.args.id c.in-Ok.at items = rw (c.from.ensures, c.as_slice.ensures.value) at c.in-Ok.ensures in
    let old = c.index_mut.result.now in
    let same : a.found ≡ old = found_is items c.in-Ok.at a.found old a.here c.index_mut.ensures.value in
    let there = sub_found c.args.id a.found a.same items c.in-Ok.at c.self.invariant.0 a.here in
    let before : option_map reply_view old.result ≡ result_at c.args.id c.args.self.now = sym (ap (result_at c.args.id) (sym v) ∙ (ap (option_and_then (λ s. s.result)) there ∙ ap (λ (r : Record). option_map reply_view r.result) same)) in
    subst (λ (o : Option Reply). IsTrue c.answer.result ↔ (o ≢ Some (reply_view c.args.reply))) before c.answer.ensures.news
