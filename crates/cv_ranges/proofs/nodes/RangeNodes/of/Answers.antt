use Rattle.std.proofs.Common.{◌≡◌, ◌+◌, length, subst, arith}
use Rattle.std.proofs.lemmas.List.{take_all}
use Rattle.cv_ranges.proofs.Steps.{Makes, makes_none, makes_more, made_own, made_others}
use Rattle.cv_ranges.proofs.nodes.RangeNodes.of.Goals as goal

pub add-requires : goal.add-requires
add-requires c =
    let together : c.in-Some.together ≡ c.len.result + c.len-2.result = c.in-Some.ensures.1 in
    omega (arith, together, c.loop-k.invariant.length)

pub loop-k-init : goal.loop-k-init
loop-k-init c = rw c.new-nodes.ensures (makes_none c.args.owner c.args.reads.now)

pub loop-k-preserved : goal.loop-k-preserved
loop-k-preserved c =
    let more = c.in_ok-add.ensures in
    makes_more c.args.owner c.args.reads.now c.loop-k.k c.interval_at.result.now c.loop-k.nodes c.add.new.nodes c.interval_at.ensures more.members more.length c.loop-k.invariant

pub returns-clause-nodes : goal.returns-clause-nodes
returns-clause-nodes c =
    let reads = c.args.reads.now in
    let last : c.loop-k.k ≡ length reads = omega arith in
    made_own c.args.owner reads c.loop-k.nodes (subst (λ k. Makes c.args.owner reads k c.loop-k.nodes) last c.loop-k.invariant) (take_all (length reads) reads (omega arith))

pub returns-clause-others : goal.returns-clause-others
returns-clause-others c =
    let reads = c.args.reads.now in
    let last : c.loop-k.k ≡ length reads = omega arith in
    made_others c.args.owner reads c.loop-k.nodes (subst (λ k. Makes c.args.owner reads k c.loop-k.nodes) last c.loop-k.invariant)

pub returns-clause-fits : goal.returns-clause-fits
returns-clause-fits c =
    let together : c.in-Some.together ≡ c.len.result + c.len-2.result = c.in-Some.ensures.1 in
    omega (arith, together)
