use Rattle.std.proofs.Common.{◌≡◌, Option, None, Some, refl}
use Rattle.uuid.specs.Text.{parsed}
use Rattle.cv_stand.proofs.script_reader.read_call.Goals as goal

none_from : {X : Type 0} (o : Option X) → ((u : X) → o ≡ Some u → ⊥) → o ≡ None
none_from None h = refl
none_from (Some u) h = absurd (h u refl)

pub returns-in_default : goal.returns-in_default
returns-in_default c =
    let none : parsed c.args.words.now.session.now ≡ None = none_from _ (λ u e. let t = c.in_default.ensures.ok.1 (u, e) in cc) in
    rw none
