use Rattle.std.proofs.Common.{◌≡◌, ◌-◌, ◌^◌, ◌≤◌, ◌∷◌, ℕ, List, sym, ap, ◌∙◌, map, arith}
use Rattle.cv_values.specs.Measures.{add, of_member, of_members}
use Rattle.cv_values.specs.Trees.{tree}
use Rattle.cv_values.specs.Value.{Value}
use Rattle.cv_values.specs.declared.val.Val.{Val}
use Rattle.cv_values.proofs.Measured.{members_more}
use Rattle.cv_values.proofs.measure.Measure.of_map.Goals as goal

pub loop-name-preserved : goal.loop-name-preserved
loop-name-preserved c =
    let e : List ℕ × Val = (c.in-Some.name.now, c.in-Some.v.now) in
    let m : List ℕ × Value = (c.in-Some.name.now, tree c.in-Some.v.now) in
    let left : List (List ℕ × Val) = c.next.new.self in
    let next : c.loop-name.name-iterator ≡ e ∷ left = c.in-Some.ensures.steps in
    let made : c.add-total.result ≡ add c.loop-name.total (of_member m) = c.add-total.ensures ∙ ap (λ m. add c.loop-name.total m) c.of_member.ensures in
    let fits : c.add-total.result.size ≤ 2 ^ 64 - 1 = omega (arith, ap (λ m. m.size) made) in (
      fits,
      rw made (members_more c.loop-name.total m (map (λ e. (e.0, tree e.1)) left))
          ∙ ap (λ (es : List (List ℕ × Val)). add c.loop-name.total (of_members (map (λ e. (e.0, tree e.1)) es))) (sym next) ∙ c.loop-name.invariant.1,
    )
