use Rattle.std.proofs.Common.{◌≡◌, ◌-◌, ℕ, List, true, is_some, length, length-drop, take, drop, sym, ◌∙◌, arith}
use Rattle.std.proofs.lemmas.List.{take_all}
use Rattle.cv_stand.specs.ScriptLine.{number_of}
use Rattle.cv_stand.proofs.ScriptWords.{IsNumber, number_is, below_zero_parsed, zero_parsed, too_low_parsed}
use Rattle.cv_stand.proofs.script_reader.read_below_zero.Goals as goal

rest_is_number : (w bytes : List ℕ) → bytes ≡ w → is_some (number_of (take (length bytes - 1) (drop 1 bytes))) ≡ true → IsNumber (drop 1 w)
rest_is_number w bytes same e =
    let whole : take (length bytes - 1) (drop 1 bytes) ≡ drop 1 bytes = take_all (length bytes - 1) (drop 1 bytes) (omega (arith, length-drop 1 bytes)) in
    number_is (drop 1 w) (rw (whole, same) at e)

pub returns-then-moment-eq0 : goal.returns-then-moment-eq0
returns-then-moment-eq0 c =
    let w = c.args.word.now in
    let n = rest_is_number w c.as_bytes.result.now c.as_bytes.ensures.value (sym c.is_number.ensures ∙ c.if-not-is_number.false) in
    zero_parsed w c.parse.result c.parse.ensures.value.0 c.requires.minus n c.in-Ok.moment c.in-Ok.is c.if-moment-eq0.true

pub returns-else-moment-eq0 : goal.returns-else-moment-eq0
returns-else-moment-eq0 c =
    let w = c.args.word.now in
    let n = rest_is_number w c.as_bytes.result.now c.as_bytes.ensures.value (sym c.is_number.ensures ∙ c.if-not-is_number.false) in
    below_zero_parsed w c.parse.result c.parse.ensures.value.0 c.requires.minus n c.in-Ok.moment c.in-Ok.is c.if-moment-eq0.false

pub returns-in-Err : goal.returns-in-Err
returns-in-Err c =
    let w = c.args.word.now in
    let n = rest_is_number w c.as_bytes.result.now c.as_bytes.ensures.value (sym c.is_number.ensures ∙ c.if-not-is_number.false) in
    too_low_parsed w c.parse.result c.parse.ensures.value.0 c.requires.minus n c.in-Err.field-0 c.in-Err.is
