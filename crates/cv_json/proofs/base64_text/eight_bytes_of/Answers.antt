use Rattle.std.proofs.Common.{rules, sym, ap, ◌∙◌, arith}
use Rattle.cv_json.specs.Base64.{eight_bytes_of}
use Rattle.cv_json.proofs.Slices.{eight_bytes_of-canonical, eight_bytes_of-none}
use Rattle.cv_json.proofs.base64_text.eight_bytes_of.Goals as goal

pub returns-in-Ok-eq8-clause-canonical : goal.returns-in-Ok-eq8-clause-canonical
returns-in-Ok-eq8-clause-canonical c =
    eight_bytes_of-canonical c.args.text.now c.decode_slice.new.output (λ i. let fits = c.type_inv.text i in omega arith) (search rules)

pub returns-in_default-2-clause-value : goal.returns-in_default-2-clause-value
returns-in_default-2-clause-value c =
    sym (ap eight_bytes_of (sym c.as_bytes.ensures.value) ∙ eight_bytes_of-none c.as_bytes.result.now c.in_default.field-0 (sym c.decode_slice.ensures.value ∙ c.in_default.is))
