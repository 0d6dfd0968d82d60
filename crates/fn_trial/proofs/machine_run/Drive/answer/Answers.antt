use Rattle.std.proofs.Common.{List, [], ◌∷◌, ◌++◌, refl, ap, ◌∙◌, subst}
use Rattle.cv_keys.specs.declared.interval.Interval.{Interval}
use Rattle.fn_plain.specs.Answers.{Answers}
use Rattle.fn_tree.specs.Documents.{Docs}
use Rattle.fn_tree.specs.Run.{with_puts}
use Rattle.fn_tree.specs.Scan.{answer}
use Rattle.fn_tree.specs.declared.stop.Put.{Put}
use Rattle.fn_trial.proofs.Driving.{asked_more}
use Rattle.fn_trial.proofs.machine_run.Drive.answer.Goals as goal

pub returns : goal.returns
returns c code whole q next asks waits rest =
    let schema = c.args.schema.now in
    let docs = c.args.docs.now in
    let before = c.args.self.now in
    let held = c.in_ok-answer.answer in
    let seen = c.in_ok-seen.seen.items in
    let answers : Answers held (answer schema seen q) = subst (λ (xs : Docs). Answers held (answer schema xs q)) c.as_slice-2.ensures.value (c.in_ok-answer.ensures q asks) in
    asked_more code schema docs whole before (record { machine = c.answered.new.self; puts = before.puts; reads = c.push.new.self }) q next held seen rest
    (c.answered.ensures code next waits)
    (c.in_ok-seen.ensures ∙ ap (λ (ps : List Put). with_puts ps docs) c.as_slice.ensures.value)
    answers
    refl
    (c.in_ok-push.ensures.items ∙ ap (λ (i : Interval). before.reads.items ++ i ∷ []) c.in_ok-copy.ensures)
