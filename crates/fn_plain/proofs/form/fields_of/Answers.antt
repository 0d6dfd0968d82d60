use Rattle.std.proofs.Common.{◌≡◌, ◌∙◌, ℕ, List, [], ◌∷◌, ◌++◌, refl, sym, ap}
use Rattle.std.proofs.lemmas.List.{map-append}
use Rattle.cv_values.specs.Docs.{with_member}
use Rattle.cv_values.specs.Trees.{tree}
use Rattle.cv_values.specs.Value.{Value}
use Rattle.cv_values.specs.declared.val.Val.{Val}
use Rattle.fn_tree.specs.Writing.{with_members}
use Rattle.fn_plain.specs.Scopes.{pairs_view}
use Rattle.fn_plain.proofs.form.fields_of.Goals as goal

with_last : (ms : List (List ℕ × Value)) (m : List ℕ × Value) (old : List (List ℕ × Value)) → with_members (ms ++ m ∷ []) old ≡ with_member (with_members ms old) m.0 m.1
with_last [] m old = refl
with_last (n ∷ ms) m old = with_last ms m (with_member old n.0 n.1)

pub loop-name-preserved : goal.loop-name-preserved
loop-name-preserved c =
    let had = c.loop-name.yielded in
    let m : List ℕ × Value = (c.in-Some.name, tree c.in-Some.value) in
    c.in_ok-insert.ensures.ok ∙ ap (λ fields. with_member fields m.0 m.1) c.loop-name.invariant
    ∙ sym (ap (λ ms. with_members ms []) (map-append (λ (p : List ℕ × Val). (p.0, tree p.1)) had ((c.in-Some.name, c.in-Some.value) ∷ [])) ∙ with_last (pairs_view had) m [])
