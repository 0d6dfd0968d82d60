use Rattle.std.proofs.Common.{◌≡◌, ◌≢◌, ℕ, ◌<◌, ◌≤◌, List, Some, None, Option, true, length, take, drop, get_or, refl, sym, ap, ◌∙◌, subst, arith}
use Rattle.std.specs.Prelude.{◌↔◌, IsTrue, IsSome, option_map, option_and_then, slice_set}
use Rattle.cv_subs.specs.Views.{shown, all_shown, IsAt, IsPlace}
use Rattle.cv_subs.specs.Subs.{Sub, Subs, new_sub, sub_at, result_at, reads_of, with_sub, without_sub, changed, staled, answered, after_marks, IsRising}
use Rattle.cv_subs.specs.declared.record.Record.{Record}
use Rattle.cv_keys.specs.declared.interval.Interval.{Interval}
use Rattle.range_tree.specs.Ranges.{Owned}
use Rattle.cv_ranges.specs.Held.{Readings, with_reads, HasRead, HoldsReads, KeepsOthers}
use Rattle.cv_subs.proofs.Read.{read_with}
use Rattle.cv_subs.proofs.subs.Subs.add.Goals as goal

pub invariant_of-self : goal.invariant_of-self
invariant_of-self c =
    let l : Subs = c.self.inside.records in
    let v : l ≡ c.args.self.now = c.self.view_is in
    let new : sub_at c.args.id l ≡ None = ap (sub_at c.args.id) v ∙ c.requires.new in
    c.ranges_tell.ensures.equal c.self.inside.tree (reads_of l) (reads_of c.add.new.self) c.self.invariant
    (λ owner. ap (λ (m : Subs). reads_of m owner) c.add.ensures ∙ read_with c.args.id c.args.query l new owner)
