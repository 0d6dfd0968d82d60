use Rattle.std.proofs.Common.{◌≡◌, List, Some, None, Option, take, refl, subst, arith}
use Rattle.std.specs.Prelude.{Contains, MatchOption}
use Rattle.std.proofs.lemmas.List.{take_all}
use Rattle.cv_keys.specs.declared.interval.Interval.{Interval}
use Rattle.range_tree.specs.Ranges.{Owned, removed, IsAbsent}
use Rattle.cv_ranges.specs.Held.{HasRead}
use Rattle.cv_ranges.proofs.Steps.{puts_none, puts_fresh, puts_again, puts_more}
use Rattle.cv_ranges.proofs.nodes.put.Goals as goal
use Rattle.cv_ranges.proofs.nodes.put.Goals.{in-Some, in_default}

at_none : {X : Type 0} (r : Option X) (P : Type 0) (Q : X → Type 0) → ((x : X) → r ≡ Some x → ⊥) → MatchOption r P Q → P
at_none None P Q n h = h
at_none (Some x) P Q n h = absurd (n x refl)

pub insert-requires-clause-absent : goal.insert-requires-clause-absent
insert-requires-clause-absent c =
    let node = c.in-Some.ensures.node in
    let there = subst (Contains c.loop-k.nodes) node.0 node.1 in
    rw node.0 (puts_fresh c.args.owner c.args.reads.now c.loop-k.k c.interval_at.result.now c.args.tree.now c.loop-k.nodes c.loop-k.tree c.loop-k.invariant there)

pub loop-k-init : goal.loop-k-init
loop-k-init c =
    puts_none c.args.owner c.args.reads.now c.args.tree.now c.nodes.inside.nodes (rw c.nodes.view_is c.requires.nodes) c.requires.apart

pub loop-k-preserved : goal.loop-k-preserved
loop-k-preserved c =
    let i = c.interval_at.result.now in
    let n : Owned = (i, c.args.owner) in
    let at = c.interval_at.ensures in
    let gone : IsAbsent n (removed n c.loop-k.nodes) = rw c.remove.ensures.list at c.remove.ensures.gone in
    let l = c.lists_tell.ensures in
    elim c.match-remove.branch [
      | in-Some w ↦
          let node = w.in-Some.ensures.node in
          rw (w.tree-is, w.insert.ensures, node.0, c.remove.ensures.list)
          (puts_more c.args.owner c.args.reads.now c.loop-k.k i c.args.tree.now c.loop-k.nodes c.loop-k.tree at c.loop-k.invariant l.inserted l.stays l.alone l.fewer gone)
      | in_default w ↦
          let away = at_none c.remove.result (IsAbsent n c.loop-k.nodes) _ w.in_default.not-Some c.remove.ensures.node in
          rw (w.tree-is, c.remove.ensures.list) (puts_again c.args.owner c.args.reads.now c.loop-k.k i c.args.tree.now c.loop-k.nodes c.loop-k.tree at c.loop-k.invariant away l.fewer)
    ]

pub returns-clause-has : goal.returns-clause-has
returns-clause-has c =
    let reads = c.args.reads.now in
    let all : take c.loop-k.k reads ≡ reads = take_all c.loop-k.k reads (omega arith) in
    subst (λ (is : List Interval). HasRead c.loop-k.tree c.args.owner is) all c.loop-k.invariant.put
