use Rattle.std.proofs.Common.{◌≡◌, ◌+◌, ◌-◌, [], ◌++◌, drop, reverse, slice_get, sym, ap, ◌∙◌, append-nil, arith}
use Rattle.std.specs.List.{cons_option}
use Rattle.cv_docs.specs.Cut.{ending}
use Rattle.cv_docs.proofs.Taking.{full}
use Rattle.cv_flat.specs.Parts.{row_of, rows_of}
use Rattle.cv_flat.proofs.Shown.{rows_back, before, ended}
use Rattle.cv_flat.proofs.gather.take_down.Goals as goal

pub loop-at-preserved : goal.loop-at-preserved
loop-at-preserved c = λ ds.
    let docs = c.args.docs.now.docs in let es = c.args.entries.now in let x = c.index-entries-at.result in let at = c.loop-at.at - 1 in
    let back : c.loop-at.at ≡ at + 1 = omega arith in
    let rest = cons_option (row_of docs c.args.ts x (slice_get es (at + 1))) ds in
    c.in_ok-take_row.ensures ds
    ∙ ap (λ o. ending c.loop-at.taken (cons_option (row_of docs c.args.ts x o) ds)) c.behind.ensures
    ∙ c.loop-at.invariant rest
    ∙ ap (λ n. ending c.args.taken.now (reverse (rows_of docs c.args.ts (drop n es)) ++ rest)) back
    ∙ ap (ending c.args.taken.now) (rows_back docs c.args.ts es at x ds c.requires (omega arith) c.index-entries-at.is)

pub returns-after-loop-at : goal.returns-after-loop-at
returns-after-loop-at c =
    let docs = c.args.docs.now.docs in let es = c.args.entries.now in
    let front : c.loop-at.at ≡ 0 = omega arith in
    sym (ended c.loop-at.taken)
    ∙ c.loop-at.invariant []
    ∙ ap (λ n. ending c.args.taken.now (reverse (rows_of docs c.args.ts (drop n es)) ++ [])) front
    ∙ ap (ending c.args.taken.now) (append-nil (reverse (rows_of docs c.args.ts es)))

pub returns-then-is_full : goal.returns-then-is_full
returns-then-is_full c =
    let rest = before c.args.docs.now.docs c.args.ts c.loop-at.at c.args.entries.now c.requires in
    sym (full c.loop-at.taken rest.0 (c.is_full.ensures.0 c.if-is_full.true)) ∙ c.loop-at.invariant rest.0 ∙ ap (ending c.args.taken.now) rest.1
