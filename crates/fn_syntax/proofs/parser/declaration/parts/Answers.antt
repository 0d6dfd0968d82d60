use Rattle.std.proofs.Common.{refl, sym, ◌∙◌, arith}
use Rattle.fn_tree.specs.Grammar.{none}
use Rattle.fn_tree.proofs.Fronts.{seq_fails}
use Rattle.fn_tree.proofs.Language.{clear}
use Rattle.fn_syntax.proofs.Answering.{missed, the_token}
use Rattle.fn_syntax.proofs.Parts.{no_turn, both_turn, second_missed, turns_over}
use Rattle.fn_syntax.proofs.Built.{parts_more}
use Rattle.std.proofs.lemmas.List.{append-nil}
use Rattle.fn_syntax.proofs.parser.declaration.parts.Goals as goal

pub loop-after-init : goal.loop-after-init
loop-after-init c =
    (no_turn _ (λ a. refl), omega arith)

pub returns-in_err-part-clause-is : goal.returns-in_err-part-clause-is
returns-in_err-part-clause-is c =
    missed _ c.from_residual.result _ c.from_residual.ensures.1 c.in_err-part.ensures.is (λ r f. second_missed c.loop-after.invariant.0 (clear _ _ refl refl) (clear _ _ refl refl) c.in-Some.ensures.is c.in-Some.ensures.shorter f)

pub loop-after-preserved : goal.loop-after-preserved
loop-after-preserved c =
    let e = c.in-Some.ensures.shorter in
    let k = c.in_ok-part.ensures.shorter in
    (both_turn _ c.loop-after.invariant.0 (clear _ _ refl refl) (clear _ _ refl refl) c.in-Some.ensures.is c.in_ok-part.ensures.is.finds (omega arith) (parts_more _ _ _ _ _ _ _ _ c.loop-after.invariant.0.says c.in_ok-path.ensures (the_token c.in_ok-part.ensures.is)), omega arith)

pub returns-clause-is : goal.returns-clause-is
returns-clause-is c =
    record {
      parse = c.loop-after.invariant.0.make none;
      finds = turns_over c.loop-after.invariant.0 (seq_fails (clear _ _ refl refl) c.in_default.ensures.is);
      says = sym (c.loop-after.invariant.0.says none ∙ append-nil _);
    }
