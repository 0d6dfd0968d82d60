use Rattle.std.proofs.Common.{◌≡◌, length, subst, arith}
use Rattle.std.proofs.lemmas.List.{take_all}
use Rattle.range_tree.specs.Ranges.{Owned, removed, IsAbsent}
use Rattle.cv_ranges.proofs.Lengths.{length_removed}
use Rattle.cv_ranges.proofs.Steps.{Takes, takes_none, takes_more, taken_out}
use Rattle.cv_ranges.proofs.nodes.take_out.Goals as goal

pub loop-k-init : goal.loop-k-init
loop-k-init c = takes_none c.args.owner c.args.reads.now c.args.tree.now c.requires

pub loop-k-preserved : goal.loop-k-preserved
loop-k-preserved c =
    let i = c.interval_at.result.now in
    let n : Owned = (i, c.args.owner) in
    let gone : IsAbsent n (removed n c.loop-k.tree) = rw c.remove.ensures.list at c.remove.ensures.gone in
    rw c.remove.ensures.list
    (takes_more c.args.owner c.args.reads.now c.loop-k.k i c.args.tree.now c.loop-k.tree c.interval_at.ensures c.lists_tell.ensures.fewer gone (length_removed n c.loop-k.tree) c.loop-k.invariant)

pub returns-clause-gone : goal.returns-clause-gone
returns-clause-gone c =
    let reads = c.args.reads.now in
    let last : c.loop-k.k ≡ length reads = omega arith in
    taken_out c.args.owner reads c.args.tree.now c.loop-k.tree (take_all (length reads) reads (omega arith))
    (subst (λ k. Takes c.args.owner reads k c.args.tree.now c.loop-k.tree) last c.loop-k.invariant)
