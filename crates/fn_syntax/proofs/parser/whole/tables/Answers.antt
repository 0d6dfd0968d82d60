use Rattle.std.proofs.Common.{refl, sym, [], arith}
use Rattle.fn_tree.specs.Grammar.{none}
use Rattle.fn_tree.specs.declared.lexeme.Terminal.TheVariants.{Word as ReservedWord}
use Rattle.fn_tree.specs.declared.lexeme.Word.TheVariants.{Table}
use Rattle.fn_tree.proofs.Language.{clear}
use Rattle.fn_syntax.proofs.Answering.{missed}
use Rattle.fn_syntax.proofs.Parts.{no_turn, one_turn, begun_missed, begins, turns_over, shut_next, within}
use Rattle.fn_syntax.proofs.Built.{views_more, says_all}
use Rattle.fn_syntax.proofs.parser.whole.tables.Goals as goal

pub loop-alloc-init : goal.loop-alloc-init
loop-alloc-init c =
    (no_turn _ (λ a. rw c.new-tables.ensures refl), omega arith)

pub returns-in_err-table-clause-is : goal.returns-in_err-table-clause-is
returns-in_err-table-clause-is c =
    missed _ c.from_residual.result _ c.from_residual.ensures.1 c.in_err-table.ensures.is (λ r f. begun_missed c.loop-alloc.invariant.0 (begins (ReservedWord Table) _ _ (sym c.loop-alloc-test.ensures)) (clear _ _ refl refl) f)

pub loop-alloc-preserved : goal.loop-alloc-preserved
loop-alloc-preserved c =
    let k = c.in_ok-table.ensures.shorter in
    (one_turn _ c.loop-alloc.invariant.0 (clear _ _ refl refl) c.in_ok-table.ensures.is.finds (omega arith) (rw c.in_ok-push.ensures.ok (views_more _ _ _ _ _ _ c.loop-alloc.invariant.0.says c.in_ok-table.ensures.is.says)), omega arith)

pub returns-clause-is : goal.returns-clause-is
returns-clause-is c =
    record {
      parse = c.loop-alloc.invariant.0.make none;
      finds = turns_over c.loop-alloc.invariant.0 (shut_next (ReservedWord Table) _ refl (within _ _ refl) (sym c.loop-alloc-test.ensures));
      says = rw c.into_vec.ensures (sym (says_all _ [] _ c.loop-alloc.invariant.0.make c.loop-alloc.invariant.0.says));
    }
