use Rattle.std.proofs.Common.{◌∙◌, ap, slice_set}
use Rattle.std.proofs.lemmas.List.{set_at}
use Rattle.fn_code.proofs.emit.jumps.fill.Goals as goal

pub returns-clause-filled : goal.returns-clause-filled
returns-clause-filled c front rest old e n = ap (λ xs. slice_set xs c.args.at c.args.instr) e ∙ set_at front old rest c.args.instr c.args.at n
