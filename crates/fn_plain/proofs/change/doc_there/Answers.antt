use Rattle.std.specs.Prelude.{Option, codes}
use Rattle.cv_values.specs.declared.doc.Doc.{Doc}
use Rattle.fn_tree.specs.Actions.{Action, or_fail}
use Rattle.fn_tree.specs.Reading.{doc_at}
use Rattle.fn_plain.specs.States.{site_at}
use Rattle.fn_plain.proofs.Faults.{handed_on}
use Rattle.fn_plain.proofs.Steps.{gave_pure, fail_fails, first_fails, then_gives, then_fails}
use Rattle.fn_plain.proofs.change.doc_there.Goals as goal

-- what is done with a document, or with none
abbrev there : Option Doc → Action Doc
there d = or_fail (codes "NoDocument") d

pub doc_at-requires : goal.doc_at-requires
doc_at-requires c = c.requires

pub returns-in_err-doc-clause-err : goal.returns-in_err-doc-clause-err
returns-in_err-doc-clause-err c n = handed_on c.from_residual.result c.in_err-doc.field-0.0 _ (first_fails c.args.context.now c.args.progress.now c.doc_at.new.progress (doc_at (site_at c.args.context.now n) c.args.id.now) there _ (c.in_err-doc.ensures.err n)) c.from_residual.ensures.1

pub returns-in-Some-clause-ok : goal.returns-in-Some-clause-ok
returns-in-Some-clause-ok c n =
    let h = rw c.in-Some.is at (c.in_ok-doc.ensures.ok n) in
    then_gives there h (gave_pure c.in-Some.doc h.within)

pub returns-in-None-clause-err : goal.returns-in-None-clause-err
returns-in-None-clause-err c n =
    let h = rw c.in-None.is at (c.in_ok-doc.ensures.ok n) in
    then_fails there c.doc_at.new.progress c.failure.result h (fail_fails Doc c.args.context.now c.doc_at.new.progress c.failure.result (codes "NoDocument") c.failure.ensures)
