use Rattle.std.proofs.Common.{◌≡◌, ◌+◌, None, Some, drop, sym, ap, ◌∙◌, arith}
use Rattle.std.specs.Option.{option_or}
use Rattle.cv_store.specs.Tails.{joined}
use Rattle.cv_store.specs.TouchLaws.{mark_touch}
use Rattle.cv_log.specs.Logs.{marks_in}
use Rattle.cv_log.proofs.Marked.{touch_from}
use Rattle.cv_log.proofs.touch.first_conflict.Goals as goal

pub returns-in-Some : goal.returns-in-Some
returns-in-Some c =
    let ms = c.args.marked.now in let at = c.loop-one.one-index in let x = c.one-item.result in
    let rest = mark_touch (joined (marks_in (drop (at + 1) ms))) c.args.reads.now in
    let here : Some c.in-Some.conflict ≡ mark_touch x.marks.items c.args.reads.now = c.in-Some.ensures ∙ ap (λ l. mark_touch l c.args.reads.now) c.as_slice.ensures.value in
    ap (λ o. option_or o rest) here ∙ sym (touch_from c.args.reads.now ms at x (omega arith) c.one-item.is) ∙ c.loop-one.invariant

pub loop-one-preserved : goal.loop-one-preserved
loop-one-preserved c =
    let ms = c.args.marked.now in let at = c.loop-one.one-index in let x = c.one-item.result in
    let rest = mark_touch (joined (marks_in (drop (at + 1) ms))) c.args.reads.now in
    let here : None ≡ mark_touch x.marks.items c.args.reads.now = c.in-None.ensures ∙ ap (λ l. mark_touch l c.args.reads.now) c.as_slice.ensures.value in
    ap (λ o. option_or o rest) here ∙ sym (touch_from c.args.reads.now ms at x (omega arith) c.one-item.is) ∙ c.loop-one.invariant
