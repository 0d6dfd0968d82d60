use Rattle.std.proofs.Common.{◌≡◌, ◌≢◌, ℕ, ◌<◌, ◌≤◌, List, [], Some, None, Option, true, length, take, drop, get_or, refl, sym, ap, ◌∙◌, subst, arith}
use Rattle.std.specs.Prelude.{◌↔◌, IsTrue, IsSome, option_map, option_and_then, slice_set}
use Rattle.cv_subs.specs.Views.{shown, all_shown, IsAt, IsPlace}
use Rattle.cv_subs.specs.Subs.{Sub, Subs, new_sub, sub_at, result_at, reads_of, with_sub, without_sub, changed, staled, answered, after_marks, IsRising}
use Rattle.cv_subs.specs.declared.record.Record.{Record}
use Rattle.cv_keys.specs.declared.interval.Interval.{Interval}
use Rattle.range_tree.specs.Ranges.{Owned}
use Rattle.cv_ranges.specs.Held.{Readings, with_reads, HasRead, HoldsReads, KeepsOthers}
use Rattle.cv_subs.proofs.Read.{read_without, read_there, read_absent}
use Rattle.cv_subs.proofs.subs.Subs.remove.Goals as goal

pub invariant_of-self : goal.invariant_of-self
invariant_of-self c =
    let l : Subs = c.self.inside.records in
    c.ranges_tell.ensures.equal c.self.inside.tree (reads_of l) (reads_of c.remove.new.self) c.self.invariant
    (λ owner. ap (λ (m : Subs). reads_of m owner) c.remove.ensures.queries ∙ read_absent c.args.id l c.in-None.ensures.reads owner)

pub take_out-requires : goal.take_out-requires
take_out-requires c =
    let l : Subs = c.self.inside.records in
    let is : reads_of l c.args.id ≡ c.in-Some.reads = read_there c.args.id l c.in-Some.reads c.in-Some.ensures.reads in
    let has : HasRead c.self.inside.tree c.args.id c.in-Some.reads = subst (HasRead c.self.inside.tree c.args.id) is (c.self.invariant c.args.id) in
    rw c.from.ensures has

pub invariant_of-self-in-Some : goal.invariant_of-self-in-Some
invariant_of-self-in-Some c =
    let l : Subs = c.self.inside.records in
    let tree = c.self.inside.tree in
    let gone : HasRead c.take_out.new.tree c.args.id [] = rw c.from.ensures at c.take_out.ensures.gone in
    let others : KeepsOthers c.args.id tree c.take_out.new.tree = rw c.from.ensures at c.take_out.ensures.others in
    let holds = c.ranges_tell.ensures.changed c.args.id [] tree c.take_out.new.tree (reads_of l) c.self.invariant gone others in
    c.ranges_tell.ensures.equal c.take_out.new.tree (with_reads c.args.id [] (reads_of l)) (reads_of c.remove.new.self) holds
    (λ owner. ap (λ (m : Subs). reads_of m owner) c.remove.ensures.queries ∙ read_without c.args.id l owner)
