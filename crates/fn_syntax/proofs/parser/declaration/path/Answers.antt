use Rattle.std.proofs.Common.{refl, ap}
use Rattle.fn_tree.specs.Grammar.{pair}
use Rattle.fn_tree.specs.Rules.{path}
use Rattle.fn_tree.proofs.Language.{clear}
use Rattle.fn_syntax.proofs.Descent.{makes_call, then, misses}
use Rattle.fn_syntax.proofs.Answering.{missed, the_token}
use Rattle.fn_syntax.proofs.Built.{path_said}
use Rattle.fn_syntax.proofs.parser.declaration.path.Goals as goal

pub returns-in_err-first-clause-is : goal.returns-in_err-first-clause-is
returns-in_err-first-clause-is c =
    missed _ c.from_residual.result _ c.from_residual.ensures.1 c.in_err-first.ensures.is (λ r f. misses (makes_call path) (clear _ _ refl refl) f)

pub returns-in_err-front-2-clause-is : goal.returns-in_err-front-2-clause-is
returns-in_err-front-2-clause-is c =
    missed _ c.from_residual-in_err-front-2.result _ c.from_residual-in_err-front-2.ensures.1 c.in_err-front-2.ensures.is (λ r f. misses (then (makes_call path) (clear _ _ refl refl) c.in_ok-first.ensures.is.finds) (clear _ _ refl refl) f)

pub returns-in_err-rest-clause-is : goal.returns-in_err-rest-clause-is
returns-in_err-rest-clause-is c =
    missed _ c.from_residual-in_err-rest.result _ c.from_residual-in_err-rest.ensures.1 c.in_err-rest.ensures.is (λ r f. misses (then (then (makes_call path) (clear _ _ refl refl) c.in_ok-first.ensures.is.finds) (clear _ _ refl refl) c.in_ok-front-2.ensures.is.finds) (clear _ _ refl refl) f)

pub returns-in_err-last-clause-is : goal.returns-in_err-last-clause-is
returns-in_err-last-clause-is c =
    missed _ c.from_residual-in_err-last.result _ c.from_residual-in_err-last.ensures.1 c.in_err-last.ensures.is (λ r f. (then (then (then (makes_call path) (clear _ _ refl refl) c.in_ok-first.ensures.is.finds) (clear _ _ refl refl) c.in_ok-front-2.ensures.is.finds) (clear _ _ refl refl) c.in_ok-rest.ensures.is.finds).fails r f)

pub returns-clause-is : goal.returns-clause-is
returns-clause-is c =
    let w = the_token c.in_ok-first.ensures.is in
    let l = the_token c.in_ok-last.ensures.is in
    record {
      parse = pair c.in_ok-first.ensures.is.parse (pair c.in_ok-front-2.ensures.is.parse (pair c.in_ok-rest.ensures.is.parse c.in_ok-last.ensures.is.parse));
      finds = (then (then (then (makes_call path) (clear _ _ refl refl) c.in_ok-first.ensures.is.finds) (clear _ _ refl refl) c.in_ok-front-2.ensures.is.finds) (clear _ _ refl refl) c.in_ok-rest.ensures.is.finds).found _ _ c.in_ok-last.ensures.is.finds;
      says = (path_said _ _ _ _ _ _ c.in_ok-first.ensures.is.parse c.in_ok-front-2.ensures.is.parse c.in_ok-rest.ensures.is.parse c.in_ok-last.ensures.is.parse _ _ c.from_string.ensures c.in_ok-whole.ensures c.in_ok-front-2.ensures.is.says c.in_ok-front.ensures c.new.ensures.bytes w l, ap (λ c. c.at) w);
    }
