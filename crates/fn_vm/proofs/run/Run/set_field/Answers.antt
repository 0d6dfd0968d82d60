use Rattle.std.proofs.Common.{◌≡◌, [], ◌∷◌, Option, Some, option_map, slice_get, sym, ap, ap₂, ◌∙◌, subst}
use Rattle.std.proofs.lemmas.Result.{IfOk-weaker}
use Rattle.cv_values.specs.Trees.{tree}
use Rattle.cv_values.specs.Value.{Value}
use Rattle.cv_values.specs.declared.val.Val.{Val}
use Rattle.fn_ops.specs.Operations as ops
use Rattle.fn_tree.specs.Operators.{builtin_value}
use Rattle.fn_tree.specs.declared.syntax.Builtin.TheVariants as builtin
use Rattle.fn_vm.proofs.LastUses.{field_used}
use Rattle.fn_vm.specs.Held.{IsGiven, value_of, given_many, all_there}
use Rattle.fn_vm.specs.Views.{state_view}
use Rattle.fn_vm.proofs.run.Run.set_field.Goals as goal

pub returns : goal.returns
returns c t code =
    let s = state_view c.args.self.now in
    let vars = s.frame.vars in
    let x = value_of c.of-first.result vars in
    let y = value_of c.of-last.result vars in
    let value : Some (tree c.in-Some.v) ≡ y = ap (option_map tree) (sym c.in-Some.is) ∙ c.in_ok-v.ensures in
    let name : Some (tree c.in-Some-2.name) ≡ x = ap (option_map tree) (sym c.in-Some-2.is) ∙ c.in_ok-name.ensures in
    let fields : Some (tree c.in-Some-take.fields) ≡ slice_get vars c.args.n = ap (option_map tree) (sym c.in-Some-take.is) ∙ c.take.ensures.value in
    let given : IsGiven c.with_field.result (given_many (builtin_value builtin.Set) (all_there (slice_get vars c.args.n ∷ x ∷ y ∷ []))) =
    subst (λ xs. IsGiven c.with_field.result (given_many (builtin_value builtin.Set) (all_there xs)))
    (ap₂ (λ (a b : Option Value). a ∷ b ∷ Some (tree c.in-Some.v) ∷ []) fields name ∙ ap (λ (b : Option Value). slice_get vars c.args.n ∷ x ∷ b ∷ []) value) c.with_field.ensures in
    IfOk-weaker c.keep.result _ _ (λ o h. field_used t code s c.args.n c.args.x c.args.y c.of-last.new.stack c.of-first.new.stack x y _ (c.of-last.ensures vars) (c.of-first.ensures vars)
    (h t code vars _ c.take.ensures.behind given)) c.keep.ensures
