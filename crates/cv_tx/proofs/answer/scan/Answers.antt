use Rattle.std.proofs.Common.{List, Some, ap, ◌∙◌, subst}
use Rattle.std.specs.Prelude.{IfOk}
use Rattle.cv_values.specs.declared.doc.Doc.{Doc}
use Rattle.fn_tree.specs.Scan.{consumed_after, consumed_interval}
use Rattle.cv_tx.specs.Asks.{Answers}
use Rattle.cv_tx.specs.Merged.{with_writes}
use Rattle.cv_tx.proofs.Planned.{planned_consumed}
use Rattle.cv_tx.proofs.answer.scan.Goals as goal

pub returns : goal.returns
returns c p ds stands distinct true_of read =
    let index = c.args.index.now in
    let limit = c.args.limit in
    let left = c.args.left.now in
    subst (λ (l : List Doc). IfOk c.consume.result (λ a. Answers a (record { docs = l; consumed = consumed_interval (Some index) p c.args.desc limit left l })))
    (ap (consumed_after limit left 0 0) (c.in_ok-rows.ensures p stands ∙ ap (with_writes index p c.args.desc c.args.writes.now) read)
    ∙ planned_consumed index p c.args.desc limit left c.args.writes.now ds distinct true_of)
    (c.consume.ensures p stands)
