use Rattle.std.proofs.Common.{sym, ◌∙◌}
use Rattle.cv_stand.proofs.ScriptWords.{number_is, at_least_zero_parsed}
use Rattle.cv_stand.proofs.script_reader.read_at_least_zero.Goals as goal

pub returns : goal.returns
returns c =
    let w = c.args.word.now in
    let n = number_is w (rw c.as_bytes.ensures.value at (sym c.is_number.ensures ∙ c.if-not-is_number.false)) in
    c.ok.ensures.value ∙ at_least_zero_parsed w c.parse.result c.parse.ensures.value.0 n
