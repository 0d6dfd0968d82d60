use Rattle.std.proofs.Common.{sym, arith}
use Rattle.range_tree.specs.Points.{Point}
use Rattle.range_tree.proofs.Found.{sorted_cut, owners_hit, few}
use Rattle.range_tree.proofs.tree.RangeTree.stab.Goals as goal

pub search-requires : goal.search-requires
search-requires g c = sorted_cut (c.args.table, c.args.index, c.args.key.now) c.self.inside.tree c.self.invariant.1

pub returns-clause-hits : goal.returns-clause-hits
returns-clause-hits g c =
    let x : Point = (c.args.table, c.args.index, c.args.key.now) in
    rw (sym c.self.view_is, sym (owners_hit x c.self.inside.tree)) c.search.ensures.hits

pub returns-clause-bound : goal.returns-clause-bound
returns-clause-bound g c =
    let x : Point = (c.args.table, c.args.index, c.args.key.now) in
    let f = few x c.self.inside.tree c.self.invariant.0 c.self.invariant.1 in
    let s = c.search.ensures.steps in
    rw (sym c.self.view_is) (f.0, f.1, omega (arith, f.2, s))
