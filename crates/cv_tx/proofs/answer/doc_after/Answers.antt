use Rattle.std.proofs.Common.{◌≡◌, List, Some, None, ap, ◌∙◌, subst}
use Rattle.std.specs.Prelude.{IfOk}
use Rattle.cv_values.specs.declared.doc.Doc.{Doc}
use Rattle.cv_keys.specs.Documents.{index_at}
use Rattle.cv_tx.proofs.Newest.{found_after}
use Rattle.cv_tx.proofs.answer.doc_after.Goals as goal

pub returns-in-None-last_write : goal.returns-in-None-last_write
returns-in-None-last_write c program ds k read =
    read ∙ found_after c.args.schema.now c.args.id.now c.args.writes.now ds c.in-Some.field-0.now None program
    (c.in-Some.ensures ∙ ap (λ t. index_at c.args.schema.now t 0) c.from.ensures) k c.in-None-last_write.ensures

pub returns-in-Some-last_write : goal.returns-in-Some-last_write
returns-in-Some-last_write c program ds k read =
    subst (λ (l : List Doc). IfOk c.found.result (λ r. r.items ≡ l))
    (found_after c.args.schema.now c.args.id.now c.args.writes.now ds c.in-Some.field-0.now (Some c.in-Some-last_write.w.now.new) program
    (c.in-Some.ensures ∙ ap (λ t. index_at c.args.schema.now t 0) c.from.ensures) k c.in-Some-last_write.ensures)
    c.found.ensures
