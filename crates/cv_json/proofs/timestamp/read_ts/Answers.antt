use Rattle.std.proofs.Common.{sym, ap, ◌∙◌}
use Rattle.std.proofs.lemmas.Nat.{le_bytes_8}
use Rattle.cv_json.specs.Base64.{base64_text}
use Rattle.cv_json.proofs.Slices.{eight_bytes_of-some}
use Rattle.cv_json.proofs.timestamp.read_ts.Goals as goal

pub returns-clause-canonical : goal.returns-clause-canonical
returns-clause-canonical c =
    let bs = c.in_ok-bytes.bytes in
    let len = (eight_bytes_of-some c.as_str.result.now bs (sym c.in_ok-bytes.ensures.value)).1 in
    sym c.as_str.ensures ∙ c.in_ok-bytes.ensures.canonical ∙ ap base64_text (sym (le_bytes_8 bs c.from_le_bytes.result len c.in_ok-bytes.ensures.bytes c.from_le_bytes.ensures))
