use Rattle.std.proofs.Common.{refl}
use Rattle.fn_tree.specs.Grammar.{pair}
use Rattle.fn_tree.specs.Rules.{moment}
use Rattle.fn_tree.proofs.FormViews.{form-Now}
use Rattle.fn_tree.proofs.Language.{clear}
use Rattle.fn_syntax.proofs.Descent.{makes_call, then, misses}
use Rattle.fn_syntax.proofs.Answering.{missed, the_token}
use Rattle.fn_syntax.proofs.parser.read.moment.Goals as goal

pub returns-in_err-word-clause-is : goal.returns-in_err-word-clause-is
returns-in_err-word-clause-is c =
    missed _ c.from_residual.result _ c.from_residual.ensures.1 c.in_err-word.ensures.is (λ r f. misses (makes_call moment) (clear _ _ refl refl) f)

pub returns-in_err-rest-clause-is : goal.returns-in_err-rest-clause-is
returns-in_err-rest-clause-is c =
    missed _ c.from_residual-in_err-rest.result _ c.from_residual-in_err-rest.ensures.1 c.in_err-rest.ensures.is (λ r f. misses (then (makes_call moment) (clear _ _ refl refl) c.in_ok-word.ensures.is.finds) (clear _ _ refl refl) f)

pub returns-in_err-rest-2-clause-is : goal.returns-in_err-rest-2-clause-is
returns-in_err-rest-2-clause-is c =
    missed _ c.from_residual-in_err-rest-2.result _ c.from_residual-in_err-rest-2.ensures.1 c.in_err-rest-2.ensures.is (λ r f. (then (then (makes_call moment) (clear _ _ refl refl) c.in_ok-word.ensures.is.finds) (clear _ _ refl refl) c.in_ok-rest.ensures.is.finds).fails r f)

pub returns-clause-is : goal.returns-clause-is
returns-clause-is c =
    let w = the_token c.in_ok-word.ensures.is in
    record {
      parse = pair c.in_ok-word.ensures.is.parse (pair c.in_ok-rest.ensures.is.parse c.in_ok-rest-2.ensures.is.parse);
      finds = (then (then (makes_call moment) (clear _ _ refl refl) c.in_ok-word.ensures.is.finds) (clear _ _ refl refl) c.in_ok-rest.ensures.is.finds).found _ _ c.in_ok-rest-2.ensures.is.finds;
      says = rw (← w, ← form-Now) c.in_ok-new.ensures;
    }
