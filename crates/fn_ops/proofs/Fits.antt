-- Which integers are of 64 bits.
use Rattle.std.proofs.Common.{◌≡◌, ℤ, pos, negsuc, true, false, w64, arith}
use Rattle.std.specs.Prelude.{FitsSigned}
use Rattle.fn_ops.specs.Operations.{fits}

pub fits-true : (z : ℤ) → FitsSigned w64 z → fits z ≡ true
fits-true (pos n) h = grind arith
fits-true (negsuc n) h = grind arith

pub fits-false : (z : ℤ) → (FitsSigned w64 z → ⊥) → fits z ≡ false
fits-false (pos n) h = grind arith
fits-false (negsuc n) h = grind arith

pub ruleset fitting = (fits-true, fits-false)
