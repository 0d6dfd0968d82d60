use Rattle.std.proofs.Common.{◌≡◌, cond, reverse, sym, ap, ◌∙◌}
use Rattle.cv_docs.specs.Cut.{cut, ending}
use Rattle.cv_docs.specs.Rows.{docs_of, rows_at}
use Rattle.cv_flat.specs.Parts.{entries_in, rows_of}
use Rattle.cv_flat.proofs.Inside.{in_order_in, newest_in}
use Rattle.cv_flat.proofs.flat_rows.FlatRowsRowIndex.scan.Goals as goal
use Rattle.cv_flat.proofs.flat_rows.FlatRowsRowIndex.scan.Goals.{then-desc+in_ok-take_down, else-desc+in_ok-take_up}

pub take_down-requires : goal.take_down-requires
take_down-requires c = rw (c.entries_in-inside.ensures, c.as_slice.ensures.value) (in_order_in c.args.i.now _ c.self.invariant)

pub take_up-requires : goal.take_up-requires
take_up-requires c = rw (c.entries_in-inside.ensures, c.as_slice.ensures.value) (in_order_in c.args.i.now _ c.self.invariant)

pub returns-clause-rows : goal.returns-clause-rows
returns-clause-rows c =
    let docs = c.args.docs.now.docs in let i = c.args.i.now in let es = c.args.self.now.entries in
    let rows = rows_at docs c.args.ts i es in
    let same : rows_of docs c.args.ts c.entries_in-inside.result.now ≡ rows =
    ap (rows_of docs c.args.ts) (c.entries_in-inside.ensures ∙ ap (entries_in i) (c.as_slice.ensures.value ∙ ap (λ l. l.entries) c.self.view_is))
    ∙ ap (docs_of docs) (newest_in i c.args.ts es) in
    elim c.if-desc.branch [
      | then-desc+in_ok-take_down w ↦
          c.into_vec.ensures ∙ ap (λ t. t.docs) w.taken-is ∙ w.in_ok-take_down.ensures
          ∙ ap (λ t. ending t (reverse (rows_of docs c.args.ts c.entries_in-inside.result.now))) c.new-taken.ensures
          ∙ ap (λ ds. cut c.args.rows c.args.size (reverse ds)) same
          ∙ ap (λ b. cut c.args.rows c.args.size (cond b (reverse rows) rows)) (sym w.if-desc.true)
      | else-desc+in_ok-take_up w ↦
          c.into_vec.ensures ∙ ap (λ t. t.docs) w.taken-is ∙ w.in_ok-take_up.ensures
          ∙ ap (λ t. ending t (rows_of docs c.args.ts c.entries_in-inside.result.now)) c.new-taken.ensures
          ∙ ap (λ ds. cut c.args.rows c.args.size ds) same
          ∙ ap (λ b. cut c.args.rows c.args.size (cond b (reverse rows) rows)) (sym w.if-desc.false)
    ]
