-- What `?` hands on.
use Rattle.std.proofs.Common.{◌≡◌, sym, subst}
use Rattle.std.specs.Prelude.{Result, Ok, Err, IfErr}
use Rattle.std.specs.Result.{IsErr, IsErrAnd}

pub handed_on : {X E : Type 0} (r : Result X E) (e : E) (P : E → Type 0) → P e → IsErrAnd r (λ f. f ≡ e) → IfErr r P
handed_on (Ok x) e P h k = tt
handed_on (Err f) e P h k = subst P (sym k) h
