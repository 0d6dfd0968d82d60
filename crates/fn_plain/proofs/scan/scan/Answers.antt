use Rattle.std.proofs.Common.{◌≡◌, None, Option, sym, ap, ◌∙◌, subst}
use Rattle.std.specs.Prelude.{IfOk}
use Rattle.cv_keys.specs.Documents.{index_at}
use Rattle.cv_keys.specs.declared.schema.Index.{Index}
use Rattle.cv_keys.specs.declared.interval.Interval.{Interval}
use Rattle.fn_tree.specs.Rows.{rows_in}
use Rattle.fn_tree.specs.Scan.{scan_answer}
use Rattle.fn_plain.specs.Scans.{Scans}
use Rattle.fn_plain.proofs.scan.scan.Goals as goal

pub returns-in-None : goal.returns-in-None
returns-in-None c p stands =
    let schema = c.args.schema.now in
    let none : index_at schema p.table p.index ≡ None = ap (λ (i : Interval). index_at schema i.table i.index) stands.bytes ∙ sym c.in-None.ensures in
    subst (λ (o : Option Index). IfOk c.scan_nothing.result (λ s. Scans s (scan_answer o (rows_in o p c.args.docs.now) p c.args.desc c.args.limit c.args.left.now)))
    (sym none) (c.scan_nothing.ensures p c.args.left.now stands)
