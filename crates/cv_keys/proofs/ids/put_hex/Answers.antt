use Rattle.std.proofs.Common.{◌≡◌, ◌+◌, ◌-◌, ◌++◌, ◌∷◌, [], sym, ap, ◌∙◌, append_assoc, append-nil, arith}
use Rattle.cv_values.specs.Ids.{hex_of}
use Rattle.cv_values.proofs.Hex.{hex_more, hex_none}
use Rattle.cv_keys.proofs.ids.put_hex.Goals as goal

pub loop-i-preserved : goal.loop-i-preserved
loop-i-preserved c =
    let next = hex_more c.args.width c.loop-i.i c.args.number (omega arith) in
    ap (λ r. r ++ hex_of (c.args.width - (c.loop-i.i + 1)) c.args.number) (c.in_ok-put.ensures ∙ ap (λ d. c.loop-i.out.items ++ d ∷ []) c.digit.ensures)
    ∙ append_assoc c.loop-i.out.items _ _ ∙ ap (λ r. c.loop-i.out.items ++ r) (sym next) ∙ c.loop-i.invariant

pub returns : goal.returns
returns c =
    let done : c.args.width - c.loop-i.i ≡ 0 = omega arith in
    sym (append-nil c.loop-i.out.items) ∙ ap (λ r. c.loop-i.out.items ++ r) (sym (ap (λ k. hex_of k c.args.number) done ∙ hex_none c.args.number)) ∙ c.loop-i.invariant
