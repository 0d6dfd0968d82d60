use Rattle.std.proofs.Common.{◌≡◌, ◌≢◌, ℕ, ◌<◌, ◌≤◌, List, [], Some, None, Option, true, length, take, drop, get_or, refl, sym, ap, ◌∙◌, subst, arith}
use Rattle.std.specs.Prelude.{◌↔◌, IsTrue, IsSome, option_map, option_and_then, slice_set}
use Rattle.cv_subs.specs.Views.{shown, all_shown, IsAt, IsPlace}
use Rattle.cv_subs.specs.Subs.{Sub, Subs, new_sub, sub_at, result_at, reads_of, with_sub, without_sub, changed, staled, answered, after_marks, IsRising}
use Rattle.cv_subs.specs.declared.record.Record.{Record}
use Rattle.cv_keys.specs.declared.interval.Interval.{Interval}
use Rattle.range_tree.specs.Ranges.{Owned}
use Rattle.cv_ranges.specs.Held.{Readings, with_reads, HasRead, HoldsReads, KeepsOthers}
use Rattle.fn_tree.specs.EntryViews.{reply_view}
use Rattle.cv_subs.proofs.Read.{read_answered, with_again}
use Rattle.cv_subs.proofs.subs.Subs.set_result.Goals as goal

pub take_out-requires : goal.take_out-requires
take_out-requires c =
    let has : HasRead c.self.inside.tree c.args.id c.reads-2.result.now = subst (HasRead c.self.inside.tree c.args.id) (sym c.reads-2.ensures) (c.self.invariant c.args.id) in
    rw c.from-owner.ensures has

pub invariant_of-self : goal.invariant_of-self
invariant_of-self c =
    let l : Subs = c.self.inside.records in
    let id = c.args.id in
    let reads = c.args.reads in
    let v : l ≡ c.args.self.now = c.self.view_is in
    let is : IsSome (sub_at id l) = subst (λ (m : Subs). IsSome (sub_at id m)) (sym v) c.requires in
    let tree = c.self.inside.tree in
    let gone : HasRead c.take_out.new.tree id [] = rw c.from-owner.ensures at c.take_out.ensures.gone in
    let others : KeepsOthers id tree c.take_out.new.tree = rw c.from-owner.ensures at c.take_out.ensures.others in
    let has : HasRead c.put.new.tree id reads = rw c.from-owner.ensures at c.put.ensures.has in
    let rest : KeepsOthers id c.take_out.new.tree c.put.new.tree = rw c.from-owner.ensures at c.put.ensures.others in
    let out = c.ranges_tell.ensures.changed id [] tree c.take_out.new.tree (reads_of l) c.self.invariant gone others in
    let holds = c.ranges_tell.ensures.changed id reads c.take_out.new.tree c.put.new.tree (with_reads id [] (reads_of l)) out has rest in
    c.ranges_tell.ensures.equal c.put.new.tree (with_reads id reads (with_reads id [] (reads_of l))) (reads_of c.answer.new.self) holds
    (λ owner. ap (λ (m : Subs). reads_of m owner) c.answer.ensures.queries ∙ (read_answered id (reply_view c.args.reply) reads l is owner ∙ with_again id reads (reads_of l) owner))
