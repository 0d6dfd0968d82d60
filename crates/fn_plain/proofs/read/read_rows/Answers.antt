use Rattle.std.proofs.Common.{◌≡◌, false, sym, ap, ◌∙◌, subst, arith}
use Rattle.std.specs.Prelude.{nat_lt}
use Rattle.std.proofs.lemmas.Bool.Decides.{nat_tests}
use Rattle.cv_keys.specs.Intervals.{in_bytes}
use Rattle.fn_tree.specs.Course.{scan_rows}
use Rattle.fn_tree.specs.Reading.{read}
use Rattle.fn_tree.specs.Run.{with_puts}
use Rattle.fn_tree.specs.Scan.{answer}
use Rattle.fn_plain.specs.Scans.{Answered}
use Rattle.fn_plain.specs.States.{Gives, site_at}
use Rattle.fn_plain.proofs.Reading.{read-refused, passed_on}
use Rattle.fn_plain.proofs.read.read_rows.Goals as goal

pub returns-then-progress-context-clause-err : goal.returns-then-progress-context-clause-err
returns-then-progress-context-clause-err c n p stands =
    let over : nat_lt c.args.progress.now.counts.ranges c.args.context.now.limits.ranges ≡ false = grind (arith, nat_tests) in
    read-refused c.args.context.now n c.args.progress.now (scan_rows p c.args.desc c.args.limit) c.failure.result over c.failure.ensures

pub returns-in_err-record_read-clause-err : goal.returns-in_err-record_read-clause-err
returns-in_err-record_read-clause-err c n p stands =
    let docs : c.as_slice-2.result.now ≡ with_puts c.args.progress.now.puts.items c.args.context.now.base.now =
    c.as_slice-2.ensures.value ∙ c.in_ok-docs.ensures ∙ ap (λ ps. with_puts ps c.args.context.now.base.now) c.as_slice.ensures.value in
    let scans = c.in_ok-found.ensures p stands in
    let question = scan_rows p c.args.desc c.args.limit in
    let answered : Answered c.args.context.now c.args.progress.now (question c.left_of-left.result) c.as_slice-3.result.now c.in_ok-found.found.consumed = record {
      docs_are = ap (λ ds. (answer c.args.context.now.schema.now ds (question c.left_of-left.result)).docs) (sym docs) ∙ sym scans.docs ∙ sym c.as_slice-3.ensures.value;
      consumed_is = ap (λ ds. in_bytes ((answer c.args.context.now.schema.now ds (question c.left_of-left.result)).consumed)) (sym docs) ∙ sym scans.consumed;
    } in
    passed_on _ _ _ c.from_residual-in_err-record_read.ensures.1 (c.in_err-record_read.ensures.err n question answered)

pub returns-clause-ok : goal.returns-clause-ok
returns-clause-ok c n p stands =
    let docs : c.as_slice-2.result.now ≡ with_puts c.args.progress.now.puts.items c.args.context.now.base.now =
    c.as_slice-2.ensures.value ∙ c.in_ok-docs.ensures ∙ ap (λ ps. with_puts ps c.args.context.now.base.now) c.as_slice.ensures.value in
    let scans = c.in_ok-found.ensures p stands in
    let question = scan_rows p c.args.desc c.args.limit in
    let answered : Answered c.args.context.now c.args.progress.now (question c.left_of-left.result) c.as_slice-3.result.now c.in_ok-found.found.consumed = record {
      docs_are = ap (λ ds. (answer c.args.context.now.schema.now ds (question c.left_of-left.result)).docs) (sym docs) ∙ sym scans.docs ∙ sym c.as_slice-3.ensures.value;
      consumed_is = ap (λ ds. in_bytes ((answer c.args.context.now.schema.now ds (question c.left_of-left.result)).consumed)) (sym docs) ∙ sym scans.consumed;
    } in
    subst (λ ds. Gives c.args.context.now c.args.progress.now c.record_read.new.progress (read (site_at c.args.context.now n) question) ds) c.as_slice-3.ensures.value
    (c.in_ok-record_read.ensures.ok n question answered)
