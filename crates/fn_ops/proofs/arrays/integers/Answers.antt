use Rattle.std.proofs.Common.{◌<ℤ◌, ◌+ℤ◌, pos, to_z, of_z, w64, FitsSigned, arith}
use Rattle.std.proofs.lemmas.Int.{ints, to_z-of_z}
use Rattle.fn_ops.proofs.Ranges.{one_more}
use Rattle.fn_ops.proofs.arrays.integers.Goals as goal

pub loop-n-preserved : goal.loop-n-preserved
loop-n-preserved c =
    let n = to_z w64 c.loop-n.n-bits in
    let below : n <ℤ to_z w64 (of_z w64 c.args.j) = search c.loop-n-test.true in
    let fits : FitsSigned w64 (n +ℤ pos 1) = omega (arith, ints) in
    one_more c.loop-n.items _ c.push.new.self (to_z w64 (of_z w64 c.args.j)) n _ below (to_z-of_z w64 (n +ℤ pos 1) fits) c.in_ok-push.ensures.ok c.loop-n.invariant
