use Rattle.std.proofs.Common.{refl}
use Rattle.fn_tree.specs.Grammar.{pair}
use Rattle.fn_tree.proofs.Language.{clear}
use Rattle.fn_syntax.proofs.Descent.{makes_same, then, misses}
use Rattle.fn_syntax.proofs.Answering.{missed}
use Rattle.fn_syntax.proofs.Built.{helper_said}
use Rattle.fn_tree.specs.declared.syntax.Kind.TheVariants as Kind
use Rattle.fn_syntax.proofs.parser.declaration.helper.Goals as goal

pub returns-in_err-rest-clause-is : goal.returns-in_err-rest-clause-is
returns-in_err-rest-clause-is c =
    missed _ c.from_residual.result _ c.from_residual.ensures.1 c.in_err-rest.ensures.is (λ r f. misses (makes_same) (clear _ _ refl refl) f)

pub returns-in_err-name-clause-is : goal.returns-in_err-name-clause-is
returns-in_err-name-clause-is c =
    missed _ c.from_residual-in_err-name.result _ c.from_residual-in_err-name.ensures.1 c.in_err-name.ensures.is (λ r f. misses (then makes_same (clear _ _ refl refl) c.in_ok-rest.ensures.is.finds) (clear _ _ refl refl) f)

pub returns-in_err-params-clause-is : goal.returns-in_err-params-clause-is
returns-in_err-params-clause-is c =
    missed _ c.from_residual-in_err-params.result _ c.from_residual-in_err-params.ensures.1 c.in_err-params.ensures.is (λ r f. misses (then (then makes_same (clear _ _ refl refl) c.in_ok-rest.ensures.is.finds) (clear _ _ refl refl) c.in_ok-name.ensures.is.finds) (clear _ _ refl refl) f)

pub returns-in_err-body-clause-is : goal.returns-in_err-body-clause-is
returns-in_err-body-clause-is c =
    missed _ c.from_residual-in_err-body.result _ c.from_residual-in_err-body.ensures.1 c.in_err-body.ensures.is (λ r f. (then (then (then makes_same (clear _ _ refl refl) c.in_ok-rest.ensures.is.finds) (clear _ _ refl refl) c.in_ok-name.ensures.is.finds) (clear _ _ refl refl) c.in_ok-params.ensures.is.finds).fails r f)

pub returns-clause-is : goal.returns-clause-is
returns-clause-is c =
    record {
      parse = pair c.in_ok-rest.ensures.is.parse (pair c.in_ok-name.ensures.is.parse (pair c.in_ok-params.ensures.is.parse c.in_ok-body.ensures.is.parse));
      finds = (then (then (then makes_same (clear _ _ refl refl) c.in_ok-rest.ensures.is.finds) (clear _ _ refl refl) c.in_ok-name.ensures.is.finds) (clear _ _ refl refl) c.in_ok-params.ensures.is.finds).found _ _ c.in_ok-body.ensures.is.finds;
      says = helper_said _ (record { kind = Kind.Helper; udf = c.in_ok-name.name.text; params = c.in_ok-params.params; body = c.in_ok-body.body; at = c.in_ok-name.name.at }) c.in_ok-name.name c.in_ok-rest.ensures.is.parse c.in_ok-name.ensures.is.parse c.in_ok-params.ensures.is.parse c.in_ok-body.ensures.is.parse refl c.in_ok-name.ensures.is.says refl refl c.in_ok-params.ensures.is.says c.in_ok-body.ensures.is.says;
    }
