use Rattle.std.proofs.Common.{◌≡◌, ◌≤◌, length, ap, ◌∙◌}
use Rattle.cv_keys.specs.declared.interval.Interval.{Interval}
use Rattle.cv_docs.specs.Cut.{scanned}
use Rattle.fn_tree.specs.History.{docs_at}
use Rattle.fn_tree.specs.Rows.{rows_at}
use Rattle.fn_tree.specs.Scan.{in_direction}
use Rattle.fn_tree.specs.SyntaxViews.{module_view}
use Rattle.cv_store.specs.Reads.{cut}
use Rattle.cv_core.specs.Cores.{State, schema_in}
use Rattle.cv_core.specs.Versioned.{entries_at}
use Rattle.cv_core.proofs.CoreReads.{if_ok, scan_reads}
use Rattle.cv_core.proofs.the_core.Core.scan.Goals as goal

pub returns : goal.returns
returns c = λ p same lo hi.
    let v = c.self.inside.rows in let log = c.self.inside.log in let ts = c.args.ts in
    let seen : ts ≤ length log.entries = rw (← c.self.view_is) at c.requires.seen in
    let there = rw (← c.self.view_is, same) at c.requires.readable in
    if_ok (λ ds. ds.items ≡ scanned v.docs ts c.args.i.now c.args.desc c.args.rows c.args.size (entries_at c.args.i.now.table c.args.i.now.index v.tables))
    (λ ds. ds.items ≡ cut c.args.rows c.args.size (in_direction c.args.desc (rows_at (schema_in c.args.self.now) p (docs_at c.args.self.now.log ts))))
    c.scan.result c.scan.ensures
    (λ ds e.
    e ∙ ap (λ (i : Interval). scanned v.docs ts i c.args.desc c.args.rows c.args.size (entries_at i.table i.index v.tables)) same
    ∙ scan_reads (module_view c.self.inside.checked.tree) log v c.self.invariant ts seen p c.args.desc c.args.rows c.args.size there lo hi
    ∙ ap (λ (s : State). cut c.args.rows c.args.size (in_direction c.args.desc (rows_at (schema_in s) p (docs_at s.log ts)))) c.self.view_is)
