use Rattle.std.proofs.Common.{refl}
use Rattle.fn_tree.specs.Grammar.{pair}
use Rattle.fn_tree.proofs.Language.{clear}
use Rattle.fn_syntax.proofs.Descent.{makes_same, then, misses}
use Rattle.fn_syntax.proofs.Answering.{missed, the_token}
use Rattle.fn_syntax.proofs.Built.{entry_said}
use Rattle.fn_syntax.proofs.parser.declaration.entry.Goals as goal

pub returns-in_err-word-clause-is : goal.returns-in_err-word-clause-is
returns-in_err-word-clause-is c =
    missed _ c.from_residual.result _ c.from_residual.ensures.1 c.in_err-word.ensures.is (λ r f. misses (makes_same) (clear _ _ refl refl) f)

pub returns-in_err-path-clause-is : goal.returns-in_err-path-clause-is
returns-in_err-path-clause-is c =
    missed _ c.from_residual-in_err-path.result _ c.from_residual-in_err-path.ensures.1 c.in_err-path.ensures.is (λ r f. misses (then makes_same (clear _ _ refl refl) c.in_ok-word.ensures.is.finds) (clear _ _ refl refl) f)

pub returns-in_err-params-clause-is : goal.returns-in_err-params-clause-is
returns-in_err-params-clause-is c =
    missed _ c.from_residual-in_err-params.result _ c.from_residual-in_err-params.ensures.1 c.in_err-params.ensures.is (λ r f. misses (then (then makes_same (clear _ _ refl refl) c.in_ok-word.ensures.is.finds) (clear _ _ refl refl) c.in_ok-path.ensures.is.finds) (clear _ _ refl refl) f)

pub returns-in_err-body-clause-is : goal.returns-in_err-body-clause-is
returns-in_err-body-clause-is c =
    missed _ c.from_residual-in_err-body.result _ c.from_residual-in_err-body.ensures.1 c.in_err-body.ensures.is (λ r f. (then (then (then makes_same (clear _ _ refl refl) c.in_ok-word.ensures.is.finds) (clear _ _ refl refl) c.in_ok-path.ensures.is.finds) (clear _ _ refl refl) c.in_ok-params.ensures.is.finds).fails r f)

pub returns-clause-is : goal.returns-clause-is
returns-clause-is c =
    record {
      parse = pair c.in_ok-word.ensures.is.parse (pair c.in_ok-path.ensures.is.parse (pair c.in_ok-params.ensures.is.parse c.in_ok-body.ensures.is.parse));
      finds = (then (then (then makes_same (clear _ _ refl refl) c.in_ok-word.ensures.is.finds) (clear _ _ refl refl) c.in_ok-path.ensures.is.finds) (clear _ _ refl refl) c.in_ok-params.ensures.is.finds).found _ _ c.in_ok-body.ensures.is.finds;
      says = entry_said _ (record { kind = c.kind_of.result; udf = c.in_ok-path.path.text; params = c.in_ok-params.params; body = c.in_ok-body.body; at = c.in_ok-path.path.at }) _ c.in_ok-word.ensures.is.parse c.in_ok-path.ensures.is.parse c.in_ok-params.ensures.is.parse c.in_ok-body.ensures.is.parse c.kind_of.ensures (the_token c.in_ok-word.ensures.is) c.in_ok-path.ensures.is.says.0 c.in_ok-path.ensures.is.says.1 c.in_ok-params.ensures.is.says c.in_ok-body.ensures.is.says;
    }
