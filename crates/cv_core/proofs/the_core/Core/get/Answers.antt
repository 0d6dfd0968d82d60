use Rattle.std.proofs.Common.{◌≡◌, ◌≤◌, false, length, ap, ◌∙◌}
use Rattle.cv_keys.specs.declared.interval.Interval.{Interval}
use Rattle.cv_docs.specs.Cut.{scanned}
use Rattle.fn_tree.specs.Documents.{doc_of}
use Rattle.fn_tree.specs.History.{docs_at}
use Rattle.fn_tree.specs.Scan.{found}
use Rattle.fn_tree.specs.SyntaxViews.{module_view}
use Rattle.cv_core.specs.Cores.{State}
use Rattle.cv_core.specs.Versioned.{entries_at}
use Rattle.cv_core.proofs.CoreReads.{if_ok, get_reads}
use Rattle.cv_core.proofs.the_core.Core.get.Goals as goal

pub returns : goal.returns
returns c =
    let v = c.self.inside.rows in let log = c.self.inside.log in let ts = c.args.ts in let id = c.args.id.now in
    let seen : ts ≤ length log.entries = rw (← c.self.view_is) at c.requires in
    if_ok (λ ds. ds.items ≡ scanned v.docs ts c.in_ok-i.i false 1 18446744073709551615 (entries_at c.in_ok-i.i.table c.in_ok-i.i.index v.tables))
    (λ ds. ds.items ≡ found (doc_of id (docs_at c.args.self.now.log ts)))
    c.scan.result c.scan.ensures
    (λ ds e.
    e ∙ ap (λ (i : Interval). scanned v.docs ts i false 1 18446744073709551615 (entries_at i.table i.index v.tables)) c.in_ok-i.ensures.interval
    ∙ get_reads (module_view c.self.inside.checked.tree) log v c.self.invariant ts seen id 18446744073709551615 c.in_ok-i.ensures.fits
    ∙ ap (λ (s : State). found (doc_of id (docs_at s.log ts))) c.self.view_is)
