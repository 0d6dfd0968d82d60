use Rattle.std.proofs.Common.{ℕ, arith, sym, subst}
use Rattle.fn_tree.specs.Fronts.{Finds}
use Rattle.fn_tree.specs.Grammar.{none, turns, token, up_to}
use Rattle.fn_tree.specs.Language.{grammar}
use Rattle.fn_tree.specs.Terminals.{is_sign}
use Rattle.fn_syntax.proofs.Descent.{turns_full}
use Rattle.fn_syntax.proofs.Signs.{signed_by}
use Rattle.fn_syntax.proofs.parser.expression.next_sign.Goals as goal

pub returns-then-most-eq0-clause-is : goal.returns-then-most-eq0-clause-is
returns-then-most-eq0-clause-is c = subst (λ (n : ℕ). Finds grammar (turns (up_to n) (token is_sign)) none c.args.tokens.now c.args.tokens.now) (sym c.if-most-eq0.true) turns_full

pub returns-clause-is : goal.returns-clause-is
returns-clause-is c = signed_by c.args.tokens.now c.args.most (omega arith) c.accept.result c.accept.ensures.is
