use Rattle.std.proofs.Common.{refl, sym, arith}
use Rattle.std.proofs.lemmas.Bool.{eq-eqb, eqb-true}
use Rattle.fn_tree.proofs.Tokens.{true_or_false}
use Rattle.fn_tree.proofs.Language.{clear}
use Rattle.fn_syntax.proofs.Parts.{no_turn, one_turn}
use Rattle.fn_syntax.proofs.Built.{views_more}
use Rattle.fn_syntax.proofs.Wholes.{function_missed, functions_found, whole_missed}
use Rattle.fn_syntax.proofs.parser.whole.functions.Goals as goal

pub loop-rest-init : goal.loop-rest-init
loop-rest-init c =
    (no_turn _ (λ a. rw c.new-functions.ensures refl), omega arith)

pub returns-in_err-function : goal.returns-in_err-function
returns-in_err-function c =
    whole_missed _ c.from_residual.result _ c.from_residual.ensures.1 c.in_err-function.ensures.is (λ r f. function_missed _ c.loop-rest.invariant.0 (λ e. true_or_false _ (eq-eqb _ _ e) (sym c.loop-rest-test.ensures)) f)

pub loop-rest-preserved : goal.loop-rest-preserved
loop-rest-preserved c =
    let k = c.in_ok-function.ensures.shorter in
    (one_turn _ c.loop-rest.invariant.0 (clear _ _ refl refl) c.in_ok-function.ensures.is.finds (omega arith) (rw c.in_ok-push.ensures.ok (views_more _ _ _ _ _ _ c.loop-rest.invariant.0.says c.in_ok-function.ensures.is.says)), omega arith)

pub returns : goal.returns
returns c =
    rw c.into_vec.ensures (functions_found _ _ _ c.loop-rest.invariant.0 (eqb-true _ _ (sym c.loop-rest-test.ensures)))
