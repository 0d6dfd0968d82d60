-- Which variant an option or a result is.
use Rattle.std.proofs.Common.{◌≡◌, Some, None, Ok, Err, Option, Result, refl}
use Rattle.std.specs.Prelude.{IsSome, IsOk}

pub there : {X : Type 0} (o : Option X) → IsSome o → (x : X) × (o ≡ Some x)
there None is = cc
there (Some x) is = (x, refl)

pub lost : {X : Type 0} (o : Option X) → o ≡ None → IsSome o → ⊥
lost None e is = cc
lost (Some x) e is = cc

pub refused : {X E : Type 0} (r : Result X E) (e : E) → r ≡ Err e → IsOk r → ⊥
refused (Ok x) e is ok = cc
refused (Err d) e is ok = cc
