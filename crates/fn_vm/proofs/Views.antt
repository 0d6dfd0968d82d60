-- The lists in a tree, and sizes within a limit.
use Rattle.std.proofs.Common.{◌≡◌, ℕ, ◌-◌, ◌<◌, ◌^◌, min, nat_le, arith}
use Rattle.std.proofs.lemmas.Bool.Decides.{nat_tests}
use Rattle.cv_values.specs.Equality.{list_of-values_of, pairs_of-members_of}

pub ruleset views = (list_of-values_of, pairs_of-members_of)

-- a size that is held only up to the greatest number is within a limit where the size is
pub within : (size held limit : ℕ) → held ≡ min size (2 ^ 64 - 1) → limit < 2 ^ 32 → nat_le held limit ≡ nat_le size limit
within size held limit e h = grind (arith, nat_tests)
