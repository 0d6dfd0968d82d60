use Rattle.std.proofs.Common.{◌<◌, ◌^◌, ◌+◌, length, sym, ap₂, ◌∙◌, arith}
use Rattle.fn_code.specs.States.{ends}
use Rattle.fn_tree.specs.Course.{failed}
use Rattle.fn_vm.proofs.RowSizes.{rows_fit, rows_pass}
use Rattle.fn_vm.specs.Views.{state_view, terms_view}
use Rattle.fn_vm.proofs.run.Run.count_rows.Goals as goal

pub returns-in-Some-clause-counted : goal.returns-in-Some-clause-counted
returns-in-Some-clause-counted c code =
    let ds = c.args.docs.now in
    let left = c.left_of-left in
    let room : left.result.size < 2 ^ 32 = omega (arith, left.ensures.size) in
    rows_pass (terms_view c.args.terms.now) code (state_view c.args.self.now) ds left.result c.rows_size-size.result c.in-Some.why.now left.ensures.left c.rows_size-size.ensures room c.in-Some.ensures.text
    ∙ ap₂ (λ text n. ends (record { reply = failed text; cost = n + length ds })) (sym c.in_ok-of.ensures) (sym c.from.ensures)

pub returns-clause-counted : goal.returns-clause-counted
returns-clause-counted c code =
    let ds = c.args.docs.now in
    let left = c.left_of-left in
    let room : left.result.size < 2 ^ 32 = omega (arith, left.ensures.size) in
    let small : c.rows_size-size.result < 2 ^ 32 = omega (arith, room, c.in_default.ensures.size) in
    rows_fit (terms_view c.args.terms.now) code (state_view c.args.self.now) ds left.result c.rows_size-size.result left.ensures.left c.rows_size-size.ensures small room c.in_default.ensures.text
