use Rattle.std.proofs.Common.{arith}
use Rattle.fn_vm.proofs.RowSizes.{size_more}
use Rattle.fn_vm.proofs.rows.rows_size.Goals as goal

pub loop-doc-preserved : goal.loop-doc-preserved
loop-doc-preserved c =
    let added = c.saturating_add-size.ensures in
    let sized = c.object_size.ensures in
    let so_far = c.loop-doc.invariant in
    let grown = size_more c.args.docs.now c.loop-doc.doc-index c.doc-item.result c.loop-doc-test.true c.doc-item.is in
    omega (arith, added, sized, so_far, grown)
