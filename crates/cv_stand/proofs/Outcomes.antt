-- What follows from a result that is met.
use Rattle.std.proofs.Common.{◌≡◌, inl, inr, ◌⊎◌, Result, Ok, Err, true, false, ap}
use Rattle.std.specs.Prelude.{OnOk, OnErr}
use Rattle.std.specs.Result.{IsErr, IsErrAnd}

pub on_ok : {T E P Q : Type 0} (r : Result T E) → (P → Q) → OnOk r P → OnOk r Q
on_ok (Ok x) f p = f p
on_ok (Err e) f p = tt

pub ok_known : {T E P : Type 0} (r : Result T E) → P → OnOk r P
ok_known (Ok x) p = p
ok_known (Err e) p = tt

pub err_known : {T E P : Type 0} (r : Result T E) → P → OnErr r P
err_known (Ok x) p = tt
err_known (Err e) p = p

-- an error that is known
pub error_is : {T E : Type 0} (r : Result T E) (e : E) → IsErr r → IsErrAnd r (λ d. d ≡ e) → r ≡ Err e
error_is (Ok x) e h k = let never : false ≡ true = h in cc
error_is (Err d) e h k = ap Err k

-- the same error of another result
pub error_as : {T U E : Type 0} (a b : E) → ◌≡◌ {A = Result T E} (Err a) (Err b) → ◌≡◌ {A = Result U E} (Err a) (Err b)
error_as a b e = let same : a ≡ b = cc in ap Err same

-- one of two errors
pub at_either : {T E P : Type 0} (r : Result T E) (a b : E) → OnErr r P → (r ≡ Err a) ⊎ (r ≡ Err b) → P
at_either (Ok x) a b p (inl e) = cc
at_either (Ok x) a b p (inr e) = cc
at_either (Err d) a b p why = p
