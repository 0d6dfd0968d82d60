use Rattle.std.proofs.Common.{refl}
use Rattle.fn_tree.specs.Grammar.{pair}
use Rattle.fn_tree.specs.Rules.{index}
use Rattle.fn_tree.proofs.Language.{clear}
use Rattle.fn_syntax.proofs.Descent.{makes_call, then, misses}
use Rattle.fn_syntax.proofs.Answering.{missed}
use Rattle.fn_syntax.proofs.Built.{index_said}
use Rattle.fn_syntax.proofs.parser.declaration.index.Goals as goal

pub returns-in_err-rest-clause-is : goal.returns-in_err-rest-clause-is
returns-in_err-rest-clause-is c =
    missed _ c.from_residual.result _ c.from_residual.ensures.1 c.in_err-rest.ensures.is (λ r f. misses (makes_call index) (clear _ _ refl refl) f)

pub returns-in_err-name-clause-is : goal.returns-in_err-name-clause-is
returns-in_err-name-clause-is c =
    missed _ c.from_residual-in_err-name.result _ c.from_residual-in_err-name.ensures.1 c.in_err-name.ensures.is (λ r f. misses (then (makes_call index) (clear _ _ refl refl) c.in_ok-rest.ensures.is.finds) (clear _ _ refl refl) f)

pub returns-in_err-rest-2-clause-is : goal.returns-in_err-rest-2-clause-is
returns-in_err-rest-2-clause-is c =
    missed _ c.from_residual-in_err-rest-2.result _ c.from_residual-in_err-rest-2.ensures.1 c.in_err-rest-2.ensures.is (λ r f. misses (then (then (makes_call index) (clear _ _ refl refl) c.in_ok-rest.ensures.is.finds) (clear _ _ refl refl) c.in_ok-name.ensures.is.finds) (clear _ _ refl refl) f)

pub returns-in_err-fields-clause-is : goal.returns-in_err-fields-clause-is
returns-in_err-fields-clause-is c =
    missed _ c.from_residual-in_err-fields.result _ c.from_residual-in_err-fields.ensures.1 c.in_err-fields.ensures.is (λ r f. misses (then (then (then (makes_call index) (clear _ _ refl refl) c.in_ok-rest.ensures.is.finds) (clear _ _ refl refl) c.in_ok-name.ensures.is.finds) (clear _ _ refl refl) c.in_ok-rest-2.ensures.is.finds) (clear _ _ refl refl) f)

pub returns-in_err-rest-3-clause-is : goal.returns-in_err-rest-3-clause-is
returns-in_err-rest-3-clause-is c =
    missed _ c.from_residual-in_err-rest-3.result _ c.from_residual-in_err-rest-3.ensures.1 c.in_err-rest-3.ensures.is (λ r f. misses (then (then (then (then (makes_call index) (clear _ _ refl refl) c.in_ok-rest.ensures.is.finds) (clear _ _ refl refl) c.in_ok-name.ensures.is.finds) (clear _ _ refl refl) c.in_ok-rest-2.ensures.is.finds) (clear _ _ refl refl) c.in_ok-fields.ensures.is.finds) (clear _ _ refl refl) f)

pub returns-in_err-rest-4-clause-is : goal.returns-in_err-rest-4-clause-is
returns-in_err-rest-4-clause-is c =
    missed _ c.from_residual-in_err-rest-4.result _ c.from_residual-in_err-rest-4.ensures.1 c.in_err-rest-4.ensures.is (λ r f. (then (then (then (then (then (makes_call index) (clear _ _ refl refl) c.in_ok-rest.ensures.is.finds) (clear _ _ refl refl) c.in_ok-name.ensures.is.finds) (clear _ _ refl refl) c.in_ok-rest-2.ensures.is.finds) (clear _ _ refl refl) c.in_ok-fields.ensures.is.finds) (clear _ _ refl refl) c.in_ok-rest-3.ensures.is.finds).fails r f)

pub returns-clause-is : goal.returns-clause-is
returns-clause-is c =
    record {
      parse = pair c.in_ok-rest.ensures.is.parse (pair c.in_ok-name.ensures.is.parse (pair c.in_ok-rest-2.ensures.is.parse (pair c.in_ok-fields.ensures.is.parse (pair c.in_ok-rest-3.ensures.is.parse c.in_ok-rest-4.ensures.is.parse))));
      finds = (then (then (then (then (then (makes_call index) (clear _ _ refl refl) c.in_ok-rest.ensures.is.finds) (clear _ _ refl refl) c.in_ok-name.ensures.is.finds) (clear _ _ refl refl) c.in_ok-rest-2.ensures.is.finds) (clear _ _ refl refl) c.in_ok-fields.ensures.is.finds) (clear _ _ refl refl) c.in_ok-rest-3.ensures.is.finds).found _ _ c.in_ok-rest-4.ensures.is.finds;
      says = index_said _ (record { name = c.in_ok-name.name; fields = c.in_ok-fields.fields }) c.in_ok-rest.ensures.is.parse c.in_ok-name.ensures.is.parse c.in_ok-rest-2.ensures.is.parse c.in_ok-fields.ensures.is.parse (pair c.in_ok-rest-3.ensures.is.parse c.in_ok-rest-4.ensures.is.parse) c.in_ok-name.ensures.is.says c.in_ok-fields.ensures.is.says;
    }
