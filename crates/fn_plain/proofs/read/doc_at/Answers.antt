use Rattle.std.proofs.Common.{◌≡◌, Option, false, sym, ap, ◌∙◌, subst, arith}
use Rattle.std.specs.Prelude.{nat_lt}
use Rattle.std.proofs.lemmas.Bool.Decides.{nat_tests}
use Rattle.cv_values.specs.declared.doc.Doc.{Doc}
use Rattle.fn_tree.specs.Actions.{give}
use Rattle.fn_tree.specs.Course.{get_doc}
use Rattle.fn_tree.specs.Documents.{doc_of}
use Rattle.fn_tree.specs.Reading.{read, first_of}
use Rattle.fn_tree.specs.Rows.{rows_at}
use Rattle.fn_tree.specs.Run.{with_puts}
use Rattle.fn_tree.specs.Scan.{id_interval, found}
use Rattle.fn_plain.specs.Scans.{Answered}
use Rattle.fn_plain.specs.States.{Gives, site_at}
use Rattle.fn_plain.proofs.Reading.{read-refused, passed_on}
use Rattle.fn_plain.proofs.Steps.{gave_pure, then_gives, first_fails}
use Rattle.fn_plain.proofs.read.doc_at.Goals as goal

pub returns-then-progress-context-clause-err : goal.returns-then-progress-context-clause-err
returns-then-progress-context-clause-err c n =
    let over : nat_lt c.args.progress.now.counts.ranges c.args.context.now.limits.ranges ≡ false = grind (arith, nat_tests) in
    first_fails c.args.context.now c.args.progress.now c.args.progress.now (read (site_at c.args.context.now n) (get_doc c.args.id.now)) (λ ds. give (first_of ds)) c.failure.result
    (read-refused c.args.context.now n c.args.progress.now (get_doc c.args.id.now) c.failure.result over c.failure.ensures)

pub returns-in_err-record_read-clause-err : goal.returns-in_err-record_read-clause-err
returns-in_err-record_read-clause-err c n =
    let id = c.args.id.now in
    let schema = c.args.context.now.schema.now in
    let seen : c.as_slice-2.result.now ≡ with_puts c.args.progress.now.puts.items c.args.context.now.base.now =
    c.as_slice-2.ensures.value ∙ c.in_ok-docs.ensures ∙ ap (λ ps. with_puts ps c.args.context.now.base.now) c.as_slice.ensures.value in
    let answered : Answered c.args.context.now c.args.progress.now (get_doc id c.left_of-left.result) c.as_slice-4.result.now c.in_ok-i.i = record {
      docs_are = ap (λ ds. found (doc_of id (rows_at schema (id_interval id) ds))) (sym seen)
          ∙ ap (λ rs. found (doc_of id rs)) (sym (c.in_ok-rows.ensures (id_interval id) c.in_ok-i.ensures) ∙ sym c.as_slice-3.ensures.value)
          ∙ sym c.in_ok-docs-2.ensures ∙ sym c.as_slice-4.ensures.value;
      consumed_is = c.in_ok-i.ensures.bytes;
    } in
    passed_on _ _ _ c.from_residual-in_err-record_read.ensures.1
    (first_fails c.args.context.now c.args.progress.now c.record_read.new.progress (read (site_at c.args.context.now n) (get_doc id)) (λ ds. give (first_of ds)) _
    (c.in_err-record_read.ensures.err n (get_doc id) answered))

pub returns-clause-ok : goal.returns-clause-ok
returns-clause-ok c n =
    let id = c.args.id.now in
    let schema = c.args.context.now.schema.now in
    let seen : c.as_slice-2.result.now ≡ with_puts c.args.progress.now.puts.items c.args.context.now.base.now =
    c.as_slice-2.ensures.value ∙ c.in_ok-docs.ensures ∙ ap (λ ps. with_puts ps c.args.context.now.base.now) c.as_slice.ensures.value in
    let answered : Answered c.args.context.now c.args.progress.now (get_doc id c.left_of-left.result) c.as_slice-4.result.now c.in_ok-i.i = record {
      docs_are = ap (λ ds. found (doc_of id (rows_at schema (id_interval id) ds))) (sym seen)
          ∙ ap (λ rs. found (doc_of id rs)) (sym (c.in_ok-rows.ensures (id_interval id) c.in_ok-i.ensures) ∙ sym c.as_slice-3.ensures.value)
          ∙ sym c.in_ok-docs-2.ensures ∙ sym c.as_slice-4.ensures.value;
      consumed_is = c.in_ok-i.ensures.bytes;
    } in
    let h = c.in_ok-record_read.ensures.ok n (get_doc id) answered in
    let first : first_of c.as_slice-4.result.now ≡ c.first_of.result = ap first_of c.as_slice-4.ensures.value ∙ sym c.first_of.ensures in
    then_gives (λ ds. give (first_of ds)) h
    (subst (λ (d : Option Doc). Gives c.args.context.now c.record_read.new.progress c.record_read.new.progress (give (first_of c.as_slice-4.result.now)) d) first (gave_pure (first_of c.as_slice-4.result.now) h.within))
