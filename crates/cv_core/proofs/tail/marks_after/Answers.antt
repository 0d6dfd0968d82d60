use Rattle.std.proofs.Common.{◌+◌, ◌-◌, ◌++◌, drop, take, sym, ap, ◌∙◌, append_assoc, arith}
use Rattle.cv_store.specs.Tails.{joined}
use Rattle.cv_log.specs.Logs.{marks_at}
use Rattle.cv_core.proofs.Tailed.{joined_next}
use Rattle.cv_core.proofs.tail.marks_after.Goals as goal

pub loop-ts-preserved : goal.loop-ts-preserved
loop-ts-preserved c =
    let ms = c.args.log.now.marks in let ts = c.loop-ts.ts in let end = c.args.from + c.args.count in
    let rest = joined (take (end - (ts + 1)) (drop (ts + 1) ms)) in let old = c.loop-ts.marks.items in
    ap (λ l. l ++ rest) (c.in_ok-push_copies.ensures ∙ ap (λ l. old ++ l) c.marks_of.ensures)
    ∙ append_assoc old (marks_at (ts + 1) ms) rest
    ∙ ap (λ l. old ++ l) (sym (joined_next ms ts (end - (ts + 1)) (end - ts) (omega (arith, c.requires, c.loop-ts-test.true)) (omega (arith, c.loop-ts-test.true))))
    ∙ c.loop-ts.invariant
