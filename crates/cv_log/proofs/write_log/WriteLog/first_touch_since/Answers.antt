use Rattle.std.proofs.Common.{◌≡◌, drop, sym, ap, ◌∙◌, arith}
use Rattle.cv_store.specs.Tails.{joined}
use Rattle.cv_store.specs.TouchLaws.{mark_touch}
use Rattle.cv_log.specs.Logs.{marks_in}
use Rattle.cv_log.proofs.Marked.{drop_marks, marks_drop}
use Rattle.cv_log.proofs.write_log.WriteLog.first_touch_since.Goals as goal

pub returns : goal.returns
returns c = λ schema same.
    let ms = c.self.inside.marked.items in let s = c.args.s in let reads = c.args.reads.now in let log = c.args.self.now in
    let later = c.later.ensures ∙ ap (drop s) c.as_slice.ensures.value in
    let marks : marks_in ms ≡ log.marks = ap (λ l. l.marks) c.self.view_is in
    c.first_conflict.ensures
    ∙ ap (λ l. mark_touch (joined (marks_in l)) reads) later
    ∙ ap (λ l. mark_touch (joined l) reads) (drop_marks s ms ∙ ap (drop s) marks ∙ ap (drop s) same ∙ marks_drop schema 0 s s log.entries (omega arith))
    ∙ sym (c.touches_go_by_marks.ensures.histories schema reads log.entries s)
