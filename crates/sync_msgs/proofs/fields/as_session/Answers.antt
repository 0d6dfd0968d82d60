use Rattle.std.proofs.Common.{◌≡◌, Option, None, Some, refl, sym}
use Rattle.serde_json.specs.Find.{as_str}
use Rattle.serde_json.specs.View.{view}
use Rattle.uuid.specs.Text.{parsed}
use Rattle.sync_msgs.proofs.fields.as_session.Goals as goal

none_from : {X : Type 0} (o : Option X) → ((u : X) → o ≡ Some u → ⊥) → o ≡ None
none_from None h = refl
none_from (Some u) h = absurd (h u refl)

pub returns-in-Err : goal.returns-in-Err
returns-in-Err c =
    let none : parsed c.in_ok-as_str.field-0.now ≡ None = none_from _ (λ u e. let t = c.in-Err.ensures.ok.1 (u, e) in cc) in
    let text : as_str (view c.args.value.now) ≡ Some c.in_ok-as_str.field-0.now = sym c.in_ok-as_str.ensures in
    rw (text, none)
