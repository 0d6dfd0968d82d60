use Rattle.std.proofs.Common.{rules, ◌≡◌, pos}
use Rattle.fn_ops.proofs.Parts.{part_is}
use Rattle.fn_ops.proofs.arrays.part.Goals as goal

pub returns : goal.returns
returns c =
    let i : c.args.i ≡ pos c.in_ok-start.start = search rules in
    let j : c.args.j ≡ pos c.in_ok-end.end = search rules in
    rw (i, j) (part_is c.args.items.now c.in_ok-start.start c.in_ok-end.end c.get.result c.get.ensures.lookup)
