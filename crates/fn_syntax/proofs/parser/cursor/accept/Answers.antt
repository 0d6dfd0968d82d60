use Rattle.std.proofs.Common.{List, subst, sym, refl}
use Rattle.fn_tree.specs.declared.lexeme.Lexeme.{Lexeme}
use Rattle.fn_syntax.specs.Classes.{has}
use Rattle.fn_tree.specs.Language.{grammar}
use Rattle.fn_tree.specs.Grammar.{token, leaf}
use Rattle.fn_tree.specs.Fronts.{Finds, Fails}
use Rattle.fn_syntax.proofs.Descent.{found_token, fails_token, fails_none}
use Rattle.fn_syntax.proofs.parser.cursor.accept.Goals as goal
use Rattle.fn_syntax.proofs.parser.cursor.accept.Goals.{in_default-via-in-Some+else-has, in_default-via-in_default}

pub returns-in-Some-clause-is : goal.returns-in-Some-clause-is
returns-in-Some-clause-is c =
    subst (λ (x : List Lexeme). Finds grammar (token (has c.args.class)) (leaf c.in-Some.first.now) x c.in-Some.rest.now) (sym c.in-Some.ensures.cases.0) (found_token (sym c.if-has.ensures))

pub returns-in_default-clause-is : goal.returns-in_default-clause-is
returns-in_default-clause-is c = elim c.in_default.branch [
  | in_default-via-in-Some+else-has w ↦
      subst (λ (x : List Lexeme). Fails grammar (token (has c.args.class)) x x) (sym w.in-Some.ensures.cases.0) (fails_token (sym w.if-has.ensures))
  | in_default-via-in_default w ↦ fails_none c.args.tokens.now refl w.in_default.ensures.cases
]
