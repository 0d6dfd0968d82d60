use Rattle.std.proofs.Common.{◌≡◌, [], sym, ap, ◌∙◌}
use Rattle.cv_docs.specs.Cut.{scanned}
use Rattle.cv_core.specs.Versioned.{rows_of, entries_or, entries_at}
use Rattle.cv_core.proofs.Reading.{scanned_nothing}
use Rattle.cv_core.proofs.rows.Rows.scan.Goals as goal

pub returns-in-None : goal.returns-in-None
returns-in-None c =
    let i = c.args.i.now in let v = c.args.self.now in
    let none : entries_at i.table i.index v.tables ≡ [] = ap (λ t. entries_at i.table i.index t.tables) (sym c.self.view_is) ∙ ap (λ ts. entries_or (rows_of i.table i.index ts)) (sym c.as_slice.ensures.value) ∙ ap entries_or (sym c.in-None.ensures) in
    c.new.ensures.items ∙ sym (ap (scanned v.docs c.args.ts i c.args.desc c.args.rows c.args.size) none ∙ scanned_nothing v.docs c.args.ts i c.args.desc c.args.rows c.args.size)
