use Rattle.std.proofs.Common.{◌≡◌, [], ◌∷◌, Option, Some, option_map, slice_get, sym, ap, ap₂, ◌∙◌, subst}
use Rattle.std.proofs.lemmas.Result.{IfOk-weaker}
use Rattle.cv_values.specs.Trees.{tree}
use Rattle.cv_values.specs.Value.{Value}
use Rattle.cv_values.specs.declared.val.Val.{Val}
use Rattle.fn_ops.specs.Operations as ops
use Rattle.fn_tree.specs.Operators.{builtin_value}
use Rattle.fn_tree.specs.declared.syntax.Builtin.TheVariants as builtin
use Rattle.fn_vm.proofs.LastUses.{item_used}
use Rattle.fn_vm.specs.Held.{IsGiven, value_of, given_many, all_there}
use Rattle.fn_vm.specs.Views.{state_view}
use Rattle.fn_vm.proofs.run.Run.push_item.Goals as goal

pub returns : goal.returns
returns c t code =
    let s = state_view c.args.self.now in
    let vars = s.frame.vars in
    let added : Some (tree c.in-Some.v) ≡ value_of c.of-operand.result vars = ap (option_map tree) (sym c.in-Some.is) ∙ c.in_ok-v.ensures in
    let items : Some (tree c.in-Some-take.items) ≡ slice_get vars c.args.n = ap (option_map tree) (sym c.in-Some-take.is) ∙ c.take.ensures.value in
    let given : IsGiven c.pushed.result (given_many (builtin_value builtin.Push) (all_there (slice_get vars c.args.n ∷ value_of c.of-operand.result vars ∷ []))) =
    subst (λ xs. IsGiven c.pushed.result (given_many (builtin_value builtin.Push) (all_there xs))) (ap₂ (λ (x y : Option Value). x ∷ y ∷ []) items added) c.pushed.ensures in
    IfOk-weaker c.keep.result _ _ (λ o h. item_used t code s c.args.n c.args.x c.of-operand.new.stack (value_of c.of-operand.result vars) _ (c.of-operand.ensures vars)
    (h t code vars _ c.take.ensures.behind given)) c.keep.ensures
