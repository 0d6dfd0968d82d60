use Rattle.std.proofs.Common.{◌∙◌}
use Rattle.fn_tree.specs.Rules.{evaluation}
use Rattle.fn_syntax.proofs.Descent.{makes_call}
use Rattle.fn_syntax.proofs.Answering.{missed}
use Rattle.fn_syntax.proofs.Built.{evaluation_said}
use Rattle.fn_syntax.proofs.parser.statement.evaluation.Goals as goal

pub returns-in_err-value-clause-is : goal.returns-in_err-value-clause-is
returns-in_err-value-clause-is c =
    missed _ c.from_residual.result _ c.from_residual.ensures.1 c.in_err-value.ensures.is (λ r f. (makes_call evaluation).fails r f)

pub returns-clause-is : goal.returns-clause-is
returns-clause-is c =
    record {
      parse = c.in_ok-value.ensures.is.parse;
      finds = (makes_call evaluation).found _ _ c.in_ok-value.ensures.is.finds;
      says = c.new.ensures ∙ evaluation_said c.args.text.now c.in_ok-value.value c.in_ok-value.ensures.is.parse c.in_ok-value.ensures.is.says;
    }
