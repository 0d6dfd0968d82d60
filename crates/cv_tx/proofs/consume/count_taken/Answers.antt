use Rattle.std.proofs.Common.{◌≡◌, true, false, take, sym, ap, ◌∙◌, arith}
use Rattle.fn_tree.specs.Scan.{rows_size, is_cut, consumed_after}
use Rattle.cv_tx.proofs.Consuming.{Consumed, consumed-more, consumed-cut, consumed-last}
use Rattle.cv_tx.proofs.consume.count_taken.Goals as goal

pub loop-row-preserved : goal.loop-row-preserved
loop-row-preserved c =
    let i = c.loop-row.row-index in
    let rows = c.args.rows.now in
    let uncut : is_cut c.args.limit c.args.left.now i (rows_size (take i rows)) ≡ false =
    ap (is_cut c.args.limit c.args.left.now i) (sym c.loop-row.invariant.size)
    ∙ ap (λ n. is_cut c.args.limit c.args.left.now n c.loop-row.taken.size) (sym c.loop-row.invariant.rows) ∙ sym c.is_cut.ensures ∙ c.if-is_cut.false in
    let more = consumed-more c.args.limit c.args.left.now rows _ i c.row-item.result c.loop-row-test.true c.row-item.is uncut c.loop-row.invariant.front in
    let sum = c.in_ok-taken.ensures in
    let sized = c.in_ok-doc_size.ensures in
    let so_far = c.loop-row.invariant.size in
    let grown = more.0 in
    record { rows = omega arith; size = omega (arith, sum, sized, so_far, grown); front = more.1 }

cut : (c : goal.Then-is_cut) → Consumed c.args.rows.now (consumed_after c.args.limit c.args.left.now 0 0 c.args.rows.now) c.loop-row.row-index
cut c =
    let i = c.loop-row.row-index in
    let rows = c.args.rows.now in
    let is : is_cut c.args.limit c.args.left.now i (rows_size (take i rows)) ≡ true =
    ap (is_cut c.args.limit c.args.left.now i) (sym c.loop-row.invariant.size)
    ∙ ap (λ n. is_cut c.args.limit c.args.left.now n c.loop-row.taken.size) (sym c.loop-row.invariant.rows) ∙ sym c.is_cut.ensures ∙ c.if-is_cut.true in
    consumed-cut c.args.limit c.args.left.now rows _ i c.row-item.result c.loop-row-test.true c.row-item.is is c.loop-row.invariant.front

pub returns-then-is_cut-clause-rows : goal.returns-then-is_cut-clause-rows
returns-then-is_cut-clause-rows c = c.loop-row.invariant.rows ∙ (cut c).count

pub returns-then-is_cut-clause-size : goal.returns-then-is_cut-clause-size
returns-then-is_cut-clause-size c = c.loop-row.invariant.size ∙ (cut c).size

pub returns-then-is_cut-clause-front : goal.returns-then-is_cut-clause-front
returns-then-is_cut-clause-front c = ap (λ n. take n c.args.rows.now) c.loop-row.invariant.rows ∙ (cut c).front

last : (c : goal.After-loop-row) → Consumed c.args.rows.now (consumed_after c.args.limit c.args.left.now 0 0 c.args.rows.now) c.loop-row.row-index
last c = consumed-last c.args.limit c.args.left.now c.args.rows.now _ c.loop-row.row-index c.loop-row.auto.row-index-end c.loop-row-test.false c.loop-row.invariant.front

pub returns-clause-rows : goal.returns-clause-rows
returns-clause-rows c = c.loop-row.invariant.rows ∙ (last c).count

pub returns-clause-size : goal.returns-clause-size
returns-clause-size c = c.loop-row.invariant.size ∙ (last c).size

pub returns-clause-front : goal.returns-clause-front
returns-clause-front c = ap (λ n. take n c.args.rows.now) c.loop-row.invariant.rows ∙ (last c).front
