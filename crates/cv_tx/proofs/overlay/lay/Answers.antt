use Rattle.std.proofs.Common.{sym, ap, ◌∙◌}
use Rattle.cv_tx.specs.Merged.{with_row}
use Rattle.cv_tx.proofs.Laid.{laid, laid_elsewhere}
use Rattle.cv_tx.proofs.overlay.lay.Goals as goal

pub returns-then-from-i : goal.returns-then-from-i
returns-then-from-i c p stands =
    laid_elsewhere c.args.index.now p c.args.desc c.args.w.now c.args.rows.now.items c.args.i.now stands (λ e. c.if-from-i.true (c.from.ensures ∙ e))

pub returns : goal.returns
returns c p stands =
    laid c.args.index.now p c.args.desc c.args.w.now c.args.rows.now.items _ c.args.i.now stands (sym c.from.ensures ∙ c.if-from-i.false)
    (c.in_ok-add_new.ensures p stands ∙ ap (with_row c.args.index.now p c.args.desc c.args.w.now.new) c.remove_id.ensures)
