use Rattle.std.proofs.Common.{◌≡◌, true, false, sym, ap, ◌∙◌, arith}
use Rattle.std.specs.Ordering.{is_gt, is_le}
use Rattle.std.specs.declared.cmp.Ordering.{Ordering}
use Rattle.std.specs.declared.cmp.Ordering.TheVariants.{Less, Equal, Greater}
use Rattle.cv_values.specs.Order.{text_cmp}
use Rattle.cv_keys.specs.Documents.{place}
use Rattle.cv_keys.specs.KeyBytes.{place_key}
use Rattle.cv_keys.specs.Places.{place_cmp}
use Rattle.fn_tree.specs.Rows.{row_cmp}
use Rattle.fn_plain.proofs.Placing.{placed-more, placed-last}
use Rattle.fn_plain.proofs.scan.place_among.Goals as goal

not_le : (o : Ordering) → is_le o ≡ false → is_gt o ≡ true
not_le Less h = cc
not_le Equal h = cc
not_le Greater h = cc

pub loop-at-preserved : goal.loop-at-preserved
loop-at-preserved c =
    let p = place c.args.doc.now c.args.index.now in
    let q = place c.index-rows-at.result c.args.index.now in
    let e : text_cmp c.in_ok-key.key c.in_ok-other.other ≡ place_cmp p q =
    ap (λ k. text_cmp k c.in_ok-other.other) c.in_ok-key.ensures.key ∙ ap (λ k. text_cmp (place_key p) k) c.in_ok-other.ensures.key
    ∙ c.keys_keep_order.ensures.lists p q c.in_ok-key.ensures.in_range c.in_ok-other.ensures.in_range in
    placed-more (row_cmp c.args.index.now) c.args.doc.now c.args.rows.now _ c.loop-at.at c.index-rows-at.result c.loop-at-test.true c.index-rows-at.is
    (not_le (place_cmp p q) (ap is_le (sym e) ∙ sym c.le.ensures ∙ c.if-le.false)) c.loop-at.invariant

pub returns-clause-placed : goal.returns-clause-placed
returns-clause-placed c = placed-last (row_cmp c.args.index.now) c.args.doc.now c.args.rows.now _ c.loop-at.at (omega arith) c.loop-at.invariant
