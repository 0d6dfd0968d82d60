use Rattle.std.proofs.Common.{◌≡◌, ◌+◌, ◌-◌, ◌∷◌, [], sym, ap, ◌∙◌, arith}
use Rattle.std.proofs.lemmas.Result.{err_from_is_err_and}
use Rattle.cv_keys.specs.Meets.{met}
use Rattle.cv_values.specs.Ids.{hex_of}
use Rattle.cv_values.proofs.Hex.{hex_more, hex_none}
use Rattle.cv_keys.proofs.Meeting.{met_on, met_apart}
use Rattle.cv_keys.proofs.ids.meet_hex.Goals as goal

pub returns-in_err-rest : goal.returns-in_err-rest
returns-in_err-rest c =
    let p = err_from_is_err_and c.from_residual.result c.from_residual.ensures.1 in
    let after = hex_of (c.args.width - (c.loop-i.i + 1)) c.args.number in
    rw (p.1, p.2) (sym c.loop-i.invariant
    ∙ ap (λ l. met l c.loop-i.rest.now) (hex_more c.args.width c.loop-i.i c.args.number (omega arith))
    ∙ ap (λ d. met (d ∷ after) c.loop-i.rest.now) (sym c.digit.ensures)
    ∙ met_apart (c.digit.result ∷ []) after c.loop-i.rest.now c.in_err-rest.field-0.0 c.in_err-rest.ensures)

pub loop-i-preserved : goal.loop-i-preserved
loop-i-preserved c =
    let after = hex_of (c.args.width - (c.loop-i.i + 1)) c.args.number in
    sym (met_on (c.digit.result ∷ []) after c.loop-i.rest.now c.in_ok-rest.rest.now c.in_ok-rest.ensures)
    ∙ ap (λ d. met (d ∷ after) c.loop-i.rest.now) c.digit.ensures
    ∙ ap (λ l. met l c.loop-i.rest.now) (sym (hex_more c.args.width c.loop-i.i c.args.number (omega arith)))
    ∙ c.loop-i.invariant

pub returns : goal.returns
returns c =
    let done : c.args.width - c.loop-i.i ≡ 0 = omega arith in
    sym c.loop-i.invariant ∙ ap (λ k. met (hex_of k c.args.number) c.loop-i.rest.now) done ∙ ap (λ l. met l c.loop-i.rest.now) (hex_none c.args.number)
