use Rattle.std.proofs.Common.{[], ◌∷◌, Option, ap₂, subst}
use Rattle.cv_values.specs.Value.{Value}
use Rattle.fn_tree.specs.Operators.{builtin_value}
use Rattle.fn_vm.specs.Held.{IsGiven, given_many, all_there}
use Rattle.fn_vm.proofs.values.two_given.Goals as goal

pub returns-in_default : goal.returns-in_default
returns-in_default c =
    subst (λ xs. IsGiven c.seen_two.result (given_many (builtin_value c.args.b) (all_there xs)))
    (ap₂ (λ (x y : Option Value). x ∷ y ∷ []) c.value.ensures c.value-in_default.ensures) (c.seen_two.ensures c.in_default.not-Push)
