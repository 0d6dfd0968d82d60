use Rattle.std.proofs.Common.{refl, sym, ap, ◌∙◌, [], arith}
use Rattle.fn_tree.specs.Grammar.{pair, none, in_left, in_right}
use Rattle.fn_tree.specs.Grammar.Reads.{in_first}
use Rattle.fn_tree.specs.Rules as rule
use Rattle.fn_tree.specs.SyntaxTree as plain
use Rattle.fn_tree.specs.declared.lexeme.Mark.TheVariants.{CloseBrace}
use Rattle.fn_tree.specs.declared.lexeme.Terminal.TheVariants.{Mark as Punctuation}
use Rattle.fn_tree.proofs.Fronts.{takes_reads, seq_finds, seq_fails, seq_fails_next}
use Rattle.fn_tree.proofs.Language.{clear}
use Rattle.fn_syntax.specs.declared.parser.statement.StatementKind.TheVariants.{Let, If, For, Return, Throw, Assignment, Evaluation}
use Rattle.fn_syntax.proofs.Descent.{makes_call, makes_in, then, misses, left_out, not_shorter}
use Rattle.fn_syntax.proofs.Answering.{missed, the_token}
use Rattle.fn_syntax.proofs.Choices.{passed, chosen, none_chosen}
use Rattle.fn_syntax.proofs.Parts.{no_turn, one_turn, misses_turn, turns_over, shut_next, shut_here, apart}
use Rattle.fn_syntax.proofs.Built.{views_more, says_all, statements_said, for_said, if_said}
use Rattle.fn_syntax.proofs.parser.statement.+statements.Goals as goal

pub block-returns-in_err-rest-clause-is : goal.block-returns-in_err-rest-clause-is
block-returns-in_err-rest-clause-is t c =
    missed _ c.from_residual.result _ c.from_residual.ensures.1 c.in_err-rest.ensures.is (λ r f. misses (makes_call rule.block) (clear _ _ refl refl) f)

pub block-returns-clause-is : goal.block-returns-clause-is
block-returns-clause-is t c =
    passed _ _ c.block_rest.result (then (makes_call rule.block) (clear _ _ refl refl) c.in_ok-rest.ensures.is.finds) (λ b a e. e) c.block_rest.ensures.is

pub block_rest-loop-alloc-init : goal.block_rest-loop-alloc-init
block_rest-loop-alloc-init t c =
    (no_turn _ (λ a. rw c.new-body.ensures refl), omega arith)

pub block_rest-returns-in_err-statement-clause-is : goal.block_rest-returns-in_err-statement-clause-is
block_rest-returns-in_err-statement-clause-is t c =
    missed _ c.from_residual.result _ c.from_residual.ensures.1 c.in_err-statement.ensures.is (λ r f. misses_turn c.loop-alloc.invariant.0 (clear _ _ refl refl) (clear _ _ refl refl) f (shut_next (Punctuation CloseBrace) _ refl (λ t h. h) (sym c.loop-alloc-test.ensures)))

pub block_rest-loop-alloc-preserved : goal.block_rest-loop-alloc-preserved
block_rest-loop-alloc-preserved t c =
    let k = c.in_ok-statement.ensures.shorter in
    (one_turn _ c.loop-alloc.invariant.0 (clear _ _ refl refl) c.in_ok-statement.ensures.is.finds (omega arith) (rw c.in_ok-push.ensures.ok (views_more _ _ _ _ _ _ c.loop-alloc.invariant.0.says c.in_ok-statement.ensures.is.says)), omega arith)

pub block_rest-returns-in_err-rest-clause-is : goal.block_rest-returns-in_err-rest-clause-is
block_rest-returns-in_err-rest-clause-is t c =
    missed _ c.from_residual-in_err-rest.result _ c.from_residual-in_err-rest.ensures.1 c.in_err-rest.ensures.is (λ r f. seq_fails_next (clear _ _ refl refl) (turns_over c.loop-alloc.invariant.0 (shut_here (Punctuation CloseBrace) _ refl (apart _ _ refl) (sym c.loop-alloc-test.ensures))) f)

pub block_rest-returns-clause-is : goal.block_rest-returns-clause-is
block_rest-returns-clause-is t c =
    record {
      parse = pair (c.loop-alloc.invariant.0.make none) c.in_ok-rest.ensures.is.parse;
      finds = seq_finds (clear _ _ refl refl) (turns_over c.loop-alloc.invariant.0 (shut_here (Punctuation CloseBrace) _ refl (apart _ _ refl) (sym c.loop-alloc-test.ensures))) c.in_ok-rest.ensures.is.finds;
      says = statements_said _ _ _ (c.loop-alloc.invariant.0.make none) c.in_ok-rest.ensures.is.parse c.into_vec.ensures (says_all _ [] _ c.loop-alloc.invariant.0.make c.loop-alloc.invariant.0.says);
    }

pub for_statement-returns-in_err-word-clause-is : goal.for_statement-returns-in_err-word-clause-is
for_statement-returns-in_err-word-clause-is t c =
    missed _ c.from_residual.result _ c.from_residual.ensures.1 c.in_err-word.ensures.is (λ r f. misses (makes_call rule.for_statement) (clear _ _ refl refl) f)

pub for_statement-returns-in_err-rest-clause-is : goal.for_statement-returns-in_err-rest-clause-is
for_statement-returns-in_err-rest-clause-is t c =
    missed _ c.from_residual-in_err-rest.result _ c.from_residual-in_err-rest.ensures.1 c.in_err-rest.ensures.is (λ r f. misses (then (makes_call rule.for_statement) (clear _ _ refl refl) c.in_ok-word.ensures.is.finds) (clear _ _ refl refl) f)

pub for_statement-returns-in_err-name-clause-is : goal.for_statement-returns-in_err-name-clause-is
for_statement-returns-in_err-name-clause-is t c =
    missed _ c.from_residual-in_err-name.result _ c.from_residual-in_err-name.ensures.1 c.in_err-name.ensures.is (λ r f. misses (then (then (makes_call rule.for_statement) (clear _ _ refl refl) c.in_ok-word.ensures.is.finds) (clear _ _ refl refl) c.in_ok-rest.ensures.is.finds) (clear _ _ refl refl) f)

pub for_statement-returns-in_err-rest-2-clause-is : goal.for_statement-returns-in_err-rest-2-clause-is
for_statement-returns-in_err-rest-2-clause-is t c =
    missed _ c.from_residual-in_err-rest-2.result _ c.from_residual-in_err-rest-2.ensures.1 c.in_err-rest-2.ensures.is (λ r f. misses (then (then (then (makes_call rule.for_statement) (clear _ _ refl refl) c.in_ok-word.ensures.is.finds) (clear _ _ refl refl) c.in_ok-rest.ensures.is.finds) (clear _ _ refl refl) c.in_ok-name.ensures.is.finds) (clear _ _ refl refl) f)

pub for_statement-returns-in_err-items-clause-is : goal.for_statement-returns-in_err-items-clause-is
for_statement-returns-in_err-items-clause-is t c =
    missed _ c.from_residual-in_err-items.result _ c.from_residual-in_err-items.ensures.1 c.in_err-items.ensures.is (λ r f. misses (then (then (then (then (makes_call rule.for_statement) (clear _ _ refl refl) c.in_ok-word.ensures.is.finds) (clear _ _ refl refl) c.in_ok-rest.ensures.is.finds) (clear _ _ refl refl) c.in_ok-name.ensures.is.finds) (clear _ _ refl refl) c.in_ok-rest-2.ensures.is.finds) (clear _ _ refl refl) f)

pub for_statement-returns-in_err-body-clause-is : goal.for_statement-returns-in_err-body-clause-is
for_statement-returns-in_err-body-clause-is t c =
    missed _ c.from_residual-in_err-body.result _ c.from_residual-in_err-body.ensures.1 c.in_err-body.ensures.is (λ r f. (then (then (then (then (then (makes_call rule.for_statement) (clear _ _ refl refl) c.in_ok-word.ensures.is.finds) (clear _ _ refl refl) c.in_ok-rest.ensures.is.finds) (clear _ _ refl refl) c.in_ok-name.ensures.is.finds) (clear _ _ refl refl) c.in_ok-rest-2.ensures.is.finds) (clear _ _ refl refl) c.in_ok-items.ensures.is.finds).fails r f)

pub for_statement-returns-clause-is : goal.for_statement-returns-clause-is
for_statement-returns-clause-is t c =
    record {
      parse = pair c.in_ok-word.ensures.is.parse (pair c.in_ok-rest.ensures.is.parse (pair c.in_ok-name.ensures.is.parse (pair c.in_ok-rest-2.ensures.is.parse (pair c.in_ok-items.ensures.is.parse c.in_ok-body.ensures.is.parse))));
      finds = (then (then (then (then (then (makes_call rule.for_statement) (clear _ _ refl refl) c.in_ok-word.ensures.is.finds) (clear _ _ refl refl) c.in_ok-rest.ensures.is.finds) (clear _ _ refl refl) c.in_ok-name.ensures.is.finds) (clear _ _ refl refl) c.in_ok-rest-2.ensures.is.finds) (clear _ _ refl refl) c.in_ok-items.ensures.is.finds).found _ _ c.in_ok-body.ensures.is.finds;
      says = c.new.ensures ∙ for_said _ _ _ _ _ c.in_ok-word.ensures.is.parse c.in_ok-rest.ensures.is.parse c.in_ok-name.ensures.is.parse c.in_ok-rest-2.ensures.is.parse c.in_ok-items.ensures.is.parse c.in_ok-body.ensures.is.parse (the_token c.in_ok-word.ensures.is) c.in_ok-name.ensures.is.says c.in_ok-items.ensures.is.says c.in_ok-body.ensures.is.says;
    }

pub if_statement-returns-in_err-word-clause-is : goal.if_statement-returns-in_err-word-clause-is
if_statement-returns-in_err-word-clause-is t c =
    missed _ c.from_residual.result _ c.from_residual.ensures.1 c.in_err-word.ensures.is (λ r f. misses (makes_call rule.if_statement) (clear _ _ refl refl) f)

pub if_statement-returns-in_err-rest-clause-is : goal.if_statement-returns-in_err-rest-clause-is
if_statement-returns-in_err-rest-clause-is t c =
    missed _ c.from_residual-in_err-rest.result _ c.from_residual-in_err-rest.ensures.1 c.in_err-rest.ensures.is (λ r f. misses (then (makes_call rule.if_statement) (clear _ _ refl refl) c.in_ok-word.ensures.is.finds) (clear _ _ refl refl) f)

pub if_statement-returns-in_err-condition-clause-is : goal.if_statement-returns-in_err-condition-clause-is
if_statement-returns-in_err-condition-clause-is t c =
    missed _ c.from_residual-in_err-condition.result _ c.from_residual-in_err-condition.ensures.1 c.in_err-condition.ensures.is (λ r f. misses (then (then (makes_call rule.if_statement) (clear _ _ refl refl) c.in_ok-word.ensures.is.finds) (clear _ _ refl refl) c.in_ok-rest.ensures.is.finds) (clear _ _ refl refl) f)

pub if_statement-returns-in_err-body-clause-is : goal.if_statement-returns-in_err-body-clause-is
if_statement-returns-in_err-body-clause-is t c =
    missed _ c.from_residual-in_err-body.result _ c.from_residual-in_err-body.ensures.1 c.in_err-body.ensures.is (λ r f. misses (then (then (then (makes_call rule.if_statement) (clear _ _ refl refl) c.in_ok-word.ensures.is.finds) (clear _ _ refl refl) c.in_ok-rest.ensures.is.finds) (clear _ _ refl refl) c.in_ok-condition.ensures.is.finds) (clear _ _ refl refl) f)

pub if_statement-returns-in_err-other-clause-is : goal.if_statement-returns-in_err-other-clause-is
if_statement-returns-in_err-other-clause-is t c =
    missed _ c.from_residual-in_err-other.result _ c.from_residual-in_err-other.ensures.1 c.in_err-other.ensures.is (λ r f. (then (then (then (then (makes_call rule.if_statement) (clear _ _ refl refl) c.in_ok-word.ensures.is.finds) (clear _ _ refl refl) c.in_ok-rest.ensures.is.finds) (clear _ _ refl refl) c.in_ok-condition.ensures.is.finds) (clear _ _ refl refl) c.in_ok-body.ensures.is.finds).fails r f)

pub if_statement-returns-clause-is : goal.if_statement-returns-clause-is
if_statement-returns-clause-is t c =
    record {
      parse = pair c.in_ok-word.ensures.is.parse (pair c.in_ok-rest.ensures.is.parse (pair c.in_ok-condition.ensures.is.parse (pair c.in_ok-body.ensures.is.parse c.in_ok-other.ensures.is.parse)));
      finds = (then (then (then (then (makes_call rule.if_statement) (clear _ _ refl refl) c.in_ok-word.ensures.is.finds) (clear _ _ refl refl) c.in_ok-rest.ensures.is.finds) (clear _ _ refl refl) c.in_ok-condition.ensures.is.finds) (clear _ _ refl refl) c.in_ok-body.ensures.is.finds).found _ _ c.in_ok-other.ensures.is.finds;
      says = c.new.ensures ∙ if_said _ _ _ _ _ c.in_ok-word.ensures.is.parse c.in_ok-rest.ensures.is.parse c.in_ok-condition.ensures.is.parse c.in_ok-body.ensures.is.parse c.in_ok-other.ensures.is.parse (the_token c.in_ok-word.ensures.is) c.in_ok-condition.ensures.is.says c.in_ok-body.ensures.is.says c.in_ok-other.ensures.is.says;
    }

pub other_branch-returns-in_default-clause-is : goal.other_branch-returns-in_default-clause-is
other_branch-returns-in_default-clause-is t c =
    record { parse = in_right none; finds = left_out (seq_fails (clear _ _ refl refl) c.in_default.ensures.is); says = refl }

pub other_branch-returns-in_err-body-clause-is : goal.other_branch-returns-in_err-body-clause-is
other_branch-returns-in_err-body-clause-is t c =
    missed _ c.from_residual.result _ c.from_residual.ensures.1 c.in_err-body.ensures.is (λ r f. (makes_in (in_first (takes_reads c.in-Some.ensures.is.takes)) (not_shorter c.in-Some.ensures.shorter)).fails r (seq_fails_next (clear _ _ refl refl) c.in-Some.ensures.is f))

pub other_branch-returns-clause-is : goal.other_branch-returns-clause-is
other_branch-returns-clause-is t c =
    record {
      parse = in_left (pair _ c.in_ok-body.ensures.is.parse);
      finds = (makes_in (in_first (takes_reads c.in-Some.ensures.is.takes)) (not_shorter c.in-Some.ensures.shorter)).found _ _ (seq_finds (clear _ _ refl refl) c.in-Some.ensures.is c.in_ok-body.ensures.is.finds);
      says = ap plain.or_else c.in_ok-body.ensures.is.says;
    }

pub statement-returns-in-None-clause-is : goal.statement-returns-in-None-clause-is
statement-returns-in-None-clause-is t c =
    none_chosen _ c.in-None.ensures

pub statement-returns-in-Some-Let-clause-is : goal.statement-returns-in-Some-Let-clause-is
statement-returns-in-Some-Let-clause-is t c =
    chosen Let _ _ c.let_statement.result (rw c.in-Some-Let.field-0-is at c.in-Some-Let.ensures) c.let_statement.ensures.is

pub statement-returns-in-Some-If-clause-is : goal.statement-returns-in-Some-If-clause-is
statement-returns-in-Some-If-clause-is t c =
    chosen If _ _ c.if_statement.result (rw c.in-Some-If.field-0-is at c.in-Some-If.ensures) c.if_statement.ensures.is

pub statement-returns-in-Some-For-clause-is : goal.statement-returns-in-Some-For-clause-is
statement-returns-in-Some-For-clause-is t c =
    chosen For _ _ c.for_statement.result (rw c.in-Some-For.field-0-is at c.in-Some-For.ensures) c.for_statement.ensures.is

pub statement-returns-in-Some-Return-clause-is : goal.statement-returns-in-Some-Return-clause-is
statement-returns-in-Some-Return-clause-is t c =
    chosen Return _ _ c.return_statement.result (rw c.in-Some-Return.field-0-is at c.in-Some-Return.ensures) c.return_statement.ensures.is

pub statement-returns-in-Some-Throw-clause-is : goal.statement-returns-in-Some-Throw-clause-is
statement-returns-in-Some-Throw-clause-is t c =
    chosen Throw _ _ c.throw_statement.result (rw c.in-Some-Throw.field-0-is at c.in-Some-Throw.ensures) c.throw_statement.ensures.is

pub statement-returns-in-Some-Assignment-clause-is : goal.statement-returns-in-Some-Assignment-clause-is
statement-returns-in-Some-Assignment-clause-is t c =
    chosen Assignment _ _ c.assignment.result (rw c.in-Some-Assignment.field-0-is at c.in-Some-Assignment.ensures) c.assignment.ensures.is

pub statement-returns-in-Some-Evaluation-clause-is : goal.statement-returns-in-Some-Evaluation-clause-is
statement-returns-in-Some-Evaluation-clause-is t c =
    chosen Evaluation _ _ c.evaluation.result (rw c.in-Some-Evaluation.field-0-is at c.in-Some-Evaluation.ensures) c.evaluation.ensures.is
