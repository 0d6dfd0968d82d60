-- Flipping the highest bit of an integer adds half the range.
use Rattle.std.proofs.Common.{◌≡◌, ◌+◌, ◌%◌, ◌^◌, ℤ, pos, negsuc, FitsSigned, arith, of_z}
use Rattle.std.proofs.lemmas.Int.{ints}
use Rattle.std.specs.Int.{w64}
use Rattle.cv_keys.specs.KeyBytes.{raised}

pub raised_is : (n : ℤ) → FitsSigned w64 n → (of_z w64 n + 9223372036854775808) % 2 ^ 64 ≡ raised n
raised_is (pos n) h = omega (arith, ints, h)
raised_is (negsuc n) h = omega (arith, ints, h)
