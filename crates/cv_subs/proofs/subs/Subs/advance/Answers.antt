use Rattle.std.proofs.Common.{◌≡◌, ◌≢◌, ℕ, ◌<◌, ◌≤◌, List, Some, None, Option, true, length, take, drop, get_or, refl, sym, ap, ◌∙◌, subst, arith}
use Rattle.std.specs.Prelude.{◌↔◌, IsTrue, IsSome, option_map, option_and_then, slice_set}
use Rattle.cv_subs.specs.Views.{shown, all_shown, IsAt, IsPlace}
use Rattle.cv_subs.specs.Subs.{Sub, Subs, new_sub, sub_at, result_at, reads_of, with_sub, without_sub, changed, staled, answered, after_marks, IsRising}
use Rattle.cv_subs.specs.declared.record.Record.{Record}
use Rattle.cv_keys.specs.declared.interval.Interval.{Interval}
use Rattle.range_tree.specs.Ranges.{Owned}
use Rattle.cv_ranges.specs.Held.{Readings, with_reads, HasRead, HoldsReads, KeepsOthers}
use Rattle.cv_reads.specs.declared.mark.Mark.{Mark}
use Rattle.cv_ranges.specs.Hits.{is_touched, is_among, marked_owners, after_hits}
use Rattle.cv_subs.proofs.Read.{read_advanced}
use Rattle.cv_subs.proofs.Hits.{marks_stale}
use Rattle.cv_subs.proofs.subs.Subs.advance.Goals as goal

hit_stale : (marks given : List Mark) (tree : List Owned) (l new : Subs) → given ≡ marks → IsRising l
    → ((owner : ℕ) → is_among owner (marked_owners marks tree) ≡ is_touched marks (reads_of l owner))
    → new ≡ after_hits (λ (subs : Subs) owner. changed owner staled subs) l (marked_owners given tree) → new ≡ after_marks marks l
hit_stale marks given tree l new same rising touched hit =
    hit ∙ (ap (λ (ms : List Mark). after_hits (λ (subs : Subs) owner. changed owner staled subs) l (marked_owners ms tree)) same
    ∙ marks_stale marks (marked_owners marks tree) l rising touched)

pub invariant_of-self : goal.invariant_of-self
invariant_of-self c =
    let l : Subs = c.self.inside.records in
    let tree = c.self.inside.tree in
    let marks = c.args.tail.now.marks in
    let e = hit_stale marks c.as_slice.result.now tree l c.hit_touched.new.hits c.as_slice.ensures c.rise.ensures
    (λ owner. c.ranges_tell.ensures.touched tree (reads_of l) marks owner c.self.invariant) c.hit_touched.ensures in
    c.ranges_tell.ensures.equal tree (reads_of l) (reads_of c.hit_touched.new.hits) c.self.invariant
    (λ owner. ap (λ (m : Subs). reads_of m owner) e ∙ read_advanced marks l owner)

pub returns : goal.returns
returns c =
    let l : Subs = c.self.inside.records in
    let v : l ≡ c.args.self.now = c.self.view_is in
    let tree = c.self.inside.tree in
    let marks = c.args.tail.now.marks in
    hit_stale marks c.as_slice.result.now tree l c.hit_touched.new.hits c.as_slice.ensures c.rise.ensures
    (λ owner. c.ranges_tell.ensures.touched tree (reads_of l) marks owner c.self.invariant) c.hit_touched.ensures
    ∙ ap (after_marks marks) v
