use Rattle.std.proofs.Common.{◌≡◌, Some, sym, ap, ◌∙◌, subst, arith}
use Rattle.std.proofs.lemmas.Option.{get_or_from_slice_get}
use Rattle.cv_reads.specs.FirstTouch.{first_touch}
use Rattle.cv_store.specs.TouchLaws.{conflict_of, AnswerTells}
use Rattle.cv_log.proofs.Marked.{range_below}
use Rattle.cv_log.proofs.touch.conflict_in.Goals as goal

pub overflow_cast-range : goal.overflow_cast-range
overflow_cast-range c =
    let below = range_below 0 c.args.marks.now c.args.reads.now c.in-Some.at c.in-Some.range (sym c.in-Some.ensures) in
    omega (arith, below, c.requires)

pub returns-in-Some : goal.returns-in-Some
returns-in-Some c =
    let found : first_touch c.args.marks.now c.args.reads.now ≡ Some (c.in-Some.at, c.in-Some.range) = sym c.in-Some.ensures in
    let tells : AnswerTells c.args.marks.now c.args.reads.now (Some (c.in-Some.at, c.in-Some.range)) =
    subst (AnswerTells c.args.marks.now c.args.reads.now) found (c.touches_go_by_marks.ensures.answers c.args.marks.now c.args.reads.now) in
    ap Some (c.conflict_of.ensures ∙ ap (λ m. conflict_of m c.in-Some.range) (c.index-marks-at.is ∙ get_or_from_slice_get c.args.marks.now c.in-Some.at tells.0 c.index-marks-at.result tells.1))
    ∙ sym tells.2
