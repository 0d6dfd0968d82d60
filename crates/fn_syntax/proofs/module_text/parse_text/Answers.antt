use Rattle.std.proofs.Common.{sym, ◌∙◌}
use Rattle.fn_tree.proofs.Fronts.{takes_reads}
use Rattle.fn_syntax.proofs.FirstFaults.{after_first, stop_first}
use Rattle.fn_syntax.proofs.module_text.parse_text.Goals as goal

pub returns-in-Some-clause-bad : goal.returns-in-Some-clause-bad
returns-in-Some-clause-bad c =
    let cut = rw (c.as_slice.ensures.value, c.in_ok-lexed.ensures.lexemes) at c.cut-deep.ensures in
    after_first c.args.text.now c.cut-deep.result.0.now c.cut-deep.result.1 c.in_ok-lexed.lexed.bad c.in-Some.fault cut (sym c.in_ok-lexed.ensures.bad) (takes_reads c.in-Ok.ensures.1)
    (sym c.fault_after-after.ensures ∙ c.in-Some.is)

pub returns-in-Err-Wrong-clause-bad : goal.returns-in-Err-Wrong-clause-bad
returns-in-Err-Wrong-clause-bad c =
    let cut = rw (c.as_slice.ensures.value, c.in_ok-lexed.ensures.lexemes) at c.cut-deep.ensures in
    rw (c.fault_at.ensures, c.fault_after-after.ensures)
    (stop_first c.args.text.now c.cut-deep.result.0.now c.in-Err-Wrong.rest.now c.cut-deep.result.1 c.in_ok-lexed.lexed.bad cut (sym c.in_ok-lexed.ensures.bad) (rw c.in-Err-Wrong.field-0-is at c.in-Err-Wrong.ensures))
