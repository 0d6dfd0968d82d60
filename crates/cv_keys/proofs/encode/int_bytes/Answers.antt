use Rattle.std.proofs.Common.{◌≡◌, ◌+◌, ◌%◌, ◌^◌, ◌∙◌, ap, of_z}
use Rattle.std.proofs.lemmas.Int.{to_z-of_z}
use Rattle.std.specs.Int.{w64, to_be_bytes}
use Rattle.cv_keys.specs.KeyBytes.{int_bytes}
use Rattle.cv_keys.proofs.Raised.{raised_is}
use Rattle.cv_keys.proofs.encode.int_bytes.Goals as goal

pub returns : goal.returns
unfolding int_bytes
returns c =
    let same : c.cast_unsigned.result ≡ of_z w64 c.args.n = c.cast_unsigned.ensures ∙ ap (of_z w64) (to_z-of_z w64 c.args.n c.ranges.n) in
    c.to_be_bytes.ensures ∙ ap (λ m. to_be_bytes w64 ((m + 9223372036854775808) % 2 ^ 64)) same ∙ ap (to_be_bytes w64) (raised_is c.args.n c.ranges.n)
