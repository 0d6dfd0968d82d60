use Rattle.std.proofs.Common.{refl, arith}
use Rattle.fn_tree.specs.Grammar.{pair, none}
use Rattle.fn_tree.proofs.Fronts.{seq_fails}
use Rattle.fn_tree.proofs.Language.{clear}
use Rattle.fn_syntax.proofs.Descent.{makes_same, then, misses}
use Rattle.fn_syntax.proofs.Answering.{missed}
use Rattle.fn_syntax.proofs.Parts.{no_turn, both_turn, second_missed, turns_over}
use Rattle.fn_syntax.proofs.Built.{says_more, says_all, names_said}
use Rattle.fn_syntax.proofs.parser.list.names.Goals as goal

pub returns-in_err-first-clause-is : goal.returns-in_err-first-clause-is
returns-in_err-first-clause-is c =
    missed _ c.from_residual.result _ c.from_residual.ensures.1 c.in_err-first.ensures.is (λ r f. misses makes_same (clear _ _ refl refl) f)

pub loop-after-init : goal.loop-after-init
loop-after-init c =
    (no_turn _ (λ a. refl), omega arith)

pub returns-in_err-name-clause-is : goal.returns-in_err-name-clause-is
returns-in_err-name-clause-is c =
    missed _ c.from_residual-in_err-name.result _ c.from_residual-in_err-name.ensures.1 c.in_err-name.ensures.is (λ r f. (then makes_same (clear _ _ refl refl) c.in_ok-first.ensures.is.finds).fails r (second_missed c.loop-after.invariant.0 (clear _ _ refl refl) (clear _ _ refl refl) c.in-Some.ensures.is c.in-Some.ensures.shorter f))

pub loop-after-preserved : goal.loop-after-preserved
loop-after-preserved c =
    let e = c.in-Some.ensures.shorter in
    let k = c.in_ok-name.ensures.shorter in
    (both_turn _ c.loop-after.invariant.0 (clear _ _ refl refl) (clear _ _ refl refl) c.in-Some.ensures.is c.in_ok-name.ensures.is.finds (omega arith) (rw c.in_ok-push-2.ensures.ok (says_more _ _ _ _ _ _ c.loop-after.invariant.0.says c.in_ok-name.ensures.is.says)), omega arith)

pub returns-clause-is : goal.returns-clause-is
returns-clause-is c =
    record {
      parse = pair c.in_ok-first.ensures.is.parse (c.loop-after.invariant.0.make none);
      finds = (then makes_same (clear _ _ refl refl) c.in_ok-first.ensures.is.finds).found _ _ (turns_over c.loop-after.invariant.0 (seq_fails (clear _ _ refl refl) c.in_default.ensures.is));
      says = names_said _ _ _ _ _ _ c.in_ok-first.ensures.is.parse (c.loop-after.invariant.0.make none) c.into_vec.ensures c.new-names.ensures (c.in_ok-push.ensures.ok) c.in_ok-first.ensures.is.says (says_all _ _ _ c.loop-after.invariant.0.make c.loop-after.invariant.0.says);
    }
