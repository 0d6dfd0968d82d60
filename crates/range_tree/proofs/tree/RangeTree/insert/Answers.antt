use Rattle.std.proofs.Common.{◌≡◌, length, refl, sym, ap, subst, arith}
use Rattle.range_tree.specs.Avl.{listed}
use Rattle.range_tree.specs.Ranges.{IsInOrder, IsAbsent, inserted}
use Rattle.range_tree.proofs.Kept.{sorted_inserted, length_inserted, height_listed}
use Rattle.range_tree.proofs.tree.RangeTree.insert.Goals as goal

pub insert-tree-requires-clause-fits : goal.insert-tree-requires-clause-fits
insert-tree-requires-clause-fits c =
    let v = c.self.invariant in let h = height_listed c.self.inside.tree in
    rw c.replace-tree.ensures.value (omega (arith, h, v.2, v.3))

pub invariant_of-self : goal.invariant_of-self
invariant_of-self c =
    let v = c.self.invariant in let e = c.insert-tree.ensures in
    let same = c.replace-tree.ensures.value in
    let l : listed c.insert-tree.result ≡ inserted c.args.node c.args.self.now = rw (e.listed, same, c.self.view_is, c.node.view_is) refl in
    let absent : IsAbsent c.args.node c.args.self.now = c.requires.absent in
    let sorted : IsInOrder c.args.self.now = subst IsInOrder c.self.view_is v.1 in
    let n = length_inserted c.args.node c.args.self.now in
    let k = ap length c.self.view_is in let m = ap length l in
    rw c.replace-empty.ensures.after (e.balanced, subst IsInOrder (sym l) (sorted_inserted c.args.node c.args.self.now absent sorted), omega (arith, n, k, m, v.2), omega (arith, k, v.2, c.requires.fits))
