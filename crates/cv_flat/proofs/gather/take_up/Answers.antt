use Rattle.std.proofs.Common.{◌≡◌, ◌+◌, [], drop, sym, ap, ◌∙◌, arith}
use Rattle.std.specs.List.{cons_option}
use Rattle.std.proofs.lemmas.List.{drop_all}
use Rattle.cv_docs.specs.Cut.{ending}
use Rattle.cv_flat.specs.Parts.{row_of, rows_of}
use Rattle.cv_flat.proofs.Shown.{rows_from, ended}
use Rattle.cv_flat.proofs.gather.take_up.Goals as goal

pub loop-at-preserved : goal.loop-at-preserved
loop-at-preserved c =
    let docs = c.args.docs.now.docs in let es = c.args.entries.now in let x = c.index-entries-at.result in
    let rest = rows_of docs c.args.ts (drop (c.loop-at.at + 1) es) in
    c.in_ok-take_row.ensures rest
    ∙ ap (λ o. ending c.loop-at.taken (cons_option (row_of docs c.args.ts x o) rest)) c.behind.ensures
    ∙ ap (ending c.loop-at.taken) (sym (rows_from docs c.args.ts es c.loop-at.at x c.requires (omega arith) c.index-entries-at.is))
    ∙ c.loop-at.invariant

pub returns-after-loop-at : goal.returns-after-loop-at
returns-after-loop-at c =
    let none : drop c.loop-at.at c.args.entries.now ≡ [] = drop_all c.loop-at.at c.args.entries.now (omega arith) in
    sym (ended c.loop-at.taken) ∙ ap (λ es. ending c.loop-at.taken (rows_of c.args.docs.now.docs c.args.ts es)) (sym none) ∙ c.loop-at.invariant
