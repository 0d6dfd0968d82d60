use Rattle.std.proofs.Common.{rules, ◌≡◌, true, false, sym, arith}
use Rattle.range_tree.specs.Points.{Point, point_lt, low, end}
use Rattle.range_tree.proofs.Searched.{stop, turn_back, go_on}
use Rattle.range_tree.proofs.search.+search.Goals as goal

pub returns-then-not-ends_after-clause-hits : goal.returns-then-not-ends_after-clause-hits
returns-then-not-ends_after-clause-hits g t c =
    let x : Point = (c.args.table, c.args.index, c.args.key.now) in
    let no : point_lt x (end c.lend-lent.result.end.now) ≡ false = cc in
    let q = stop x c.args.nodes.now.tree _ _ c.lend-lent.ensures.end c.lend-lent.ensures.node no in
    rw q.0 (search rules)

pub returns-then-not-ends_after-clause-steps : goal.returns-then-not-ends_after-clause-steps
returns-then-not-ends_after-clause-steps g t c =
    let x : Point = (c.args.table, c.args.index, c.args.key.now) in
    let no : point_lt x (end c.lend-lent.result.end.now) ≡ false = cc in
    let q = stop x c.args.nodes.now.tree _ _ c.lend-lent.ensures.end c.lend-lent.ensures.node no in
    rw q.1 c.lend-lent.ensures.step

pub returns-then-begins_after-clause-hits : goal.returns-then-begins_after-clause-hits
returns-then-begins_after-clause-hits g t c =
    let x : Point = (c.args.table, c.args.index, c.args.key.now) in
    let yes : point_lt x (end c.lend-lent.result.end.now) ≡ true = cc in
    let late : point_lt x (low c.lend-lent.result.node.now.interval) ≡ true = cc in
    let q = turn_back x c.args.nodes.now.tree _ _ c.lend-lent.ensures.end c.lend-lent.ensures.node yes late c.requires.cut in
    rw (q.0, sym c.lend-lent.ensures.left) c.search.ensures.hits

pub returns-then-begins_after-clause-steps : goal.returns-then-begins_after-clause-steps
returns-then-begins_after-clause-steps g t c =
    let x : Point = (c.args.table, c.args.index, c.args.key.now) in
    let yes : point_lt x (end c.lend-lent.result.end.now) ≡ true = cc in
    let late : point_lt x (low c.lend-lent.result.node.now.interval) ≡ true = cc in
    let q = turn_back x c.args.nodes.now.tree _ _ c.lend-lent.ensures.end c.lend-lent.ensures.node yes late c.requires.cut in
    let s = c.search.ensures.steps in
    rw (q.1, sym c.lend-lent.ensures.left) (omega (arith, s, c.lend-lent.ensures.step))

pub returns-clause-steps : goal.returns-clause-steps
returns-clause-steps g t c =
    let x : Point = (c.args.table, c.args.index, c.args.key.now) in
    let yes : point_lt x (end c.lend-lent.result.end.now) ≡ true = cc in
    let early : point_lt x (low c.lend-lent.result.node.now.interval) ≡ false = cc in
    let q = go_on x c.args.nodes.now.tree _ _ c.lend-lent.ensures.end c.lend-lent.ensures.node yes early in
    let s = c.search.ensures.steps in let r = c.search-2.ensures.steps in
    rw (q.1, sym c.lend-lent.ensures.left, sym c.lend-lent.ensures.right) (omega (arith, s, r, c.lend-lent.ensures.step))
