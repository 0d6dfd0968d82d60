use Rattle.std.proofs.Common.{arith}
use Rattle.fn_plain.proofs.Consuming.{size-more}
use Rattle.fn_plain.proofs.read.rows_size.Goals as goal

pub loop-row-preserved : goal.loop-row-preserved
loop-row-preserved c =
    let added = c.saturating_add-size.ensures in
    let sized = c.in_ok-doc_size.ensures in
    let so_far = c.loop-row.invariant in
    let grown = size-more c.args.rows.now c.loop-row.row-index c.row-item.result c.loop-row-test.true c.row-item.is in
    omega (arith, added, sized, so_far, grown)
