use Rattle.std.proofs.Common.{◌≡◌, ◌∙◌, arith}
use Rattle.range_tree.specs.Ranges.{Owned}
use Rattle.cv_ranges.proofs.Lengths.{length_removed, length_added}
use Rattle.cv_ranges.proofs.Steps.{added}
use Rattle.cv_ranges.proofs.nodes.add.Goals as goal
use Rattle.cv_ranges.proofs.nodes.add.Goals.{in-Some, in-None+in_ok-node-in-None}

pub insert-requires-clause-fits : goal.insert-requires-clause-fits
insert-requires-clause-fits c =
    let shorter = length_removed (c.args.interval.now, c.args.owner) c.args.nodes.now in
    rw c.remove.ensures.list (omega (arith, shorter, c.requires))

pub returns-clause-members : goal.returns-clause-members
returns-clause-members c = λ x.
    let n : Owned = (c.args.interval.now, c.args.owner) in
    let same : c.match-remove.node ≡ n = elim c.match-remove.branch [
      | in-Some w ↦ w.node-is ∙ w.in-Some.ensures.node.0
      | in-None+in_ok-node-in-None w ↦ w.node-is ∙ w.in_ok-node-in-None.ensures
    ] in
    let l = c.lists_tell.ensures in
    added l.inserted l.stays l.alone l.fewer n c.match-remove.node c.args.nodes.now c.remove.new.self c.insert.new.self same c.remove.ensures.list c.insert.ensures x

pub returns-clause-length : goal.returns-clause-length
returns-clause-length c =
    let n : Owned = (c.args.interval.now, c.args.owner) in
    length_added n c.match-remove.node c.args.nodes.now c.remove.new.self c.insert.new.self c.remove.ensures.list c.insert.ensures
