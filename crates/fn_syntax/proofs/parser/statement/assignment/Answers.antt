use Rattle.std.proofs.Common.{refl, ◌∙◌}
use Rattle.fn_tree.specs.Grammar.{pair}
use Rattle.fn_tree.specs.Rules.{assignment}
use Rattle.fn_tree.proofs.Language.{clear}
use Rattle.fn_syntax.proofs.Descent.{makes_call, then, misses}
use Rattle.fn_syntax.proofs.Answering.{missed}
use Rattle.fn_syntax.proofs.Built.{assignment_said}
use Rattle.fn_syntax.proofs.parser.statement.assignment.Goals as goal

pub returns-in_err-name-clause-is : goal.returns-in_err-name-clause-is
returns-in_err-name-clause-is c =
    missed _ c.from_residual.result _ c.from_residual.ensures.1 c.in_err-name.ensures.is (λ r f. misses (makes_call assignment) (clear _ _ refl refl) f)

pub returns-in_err-rest-clause-is : goal.returns-in_err-rest-clause-is
returns-in_err-rest-clause-is c =
    missed _ c.from_residual-in_err-rest.result _ c.from_residual-in_err-rest.ensures.1 c.in_err-rest.ensures.is (λ r f. misses (then (makes_call assignment) (clear _ _ refl refl) c.in_ok-name.ensures.is.finds) (clear _ _ refl refl) f)

pub returns-in_err-value-clause-is : goal.returns-in_err-value-clause-is
returns-in_err-value-clause-is c =
    missed _ c.from_residual-in_err-value.result _ c.from_residual-in_err-value.ensures.1 c.in_err-value.ensures.is (λ r f. (then (then (makes_call assignment) (clear _ _ refl refl) c.in_ok-name.ensures.is.finds) (clear _ _ refl refl) c.in_ok-rest.ensures.is.finds).fails r f)

pub returns-clause-is : goal.returns-clause-is
returns-clause-is c =
    record {
      parse = pair c.in_ok-name.ensures.is.parse (pair c.in_ok-rest.ensures.is.parse c.in_ok-value.ensures.is.parse);
      finds = (then (then (makes_call assignment) (clear _ _ refl refl) c.in_ok-name.ensures.is.finds) (clear _ _ refl refl) c.in_ok-rest.ensures.is.finds).found _ _ c.in_ok-value.ensures.is.finds;
      says = c.new.ensures ∙ assignment_said c.args.text.now c.in_ok-name.name c.in_ok-value.value c.in_ok-name.ensures.is.parse c.in_ok-rest.ensures.is.parse c.in_ok-value.ensures.is.parse c.in_ok-name.ensures.is.says c.in_ok-value.ensures.is.says;
    }
