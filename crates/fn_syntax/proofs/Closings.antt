-- The marks that close expressions begin none and go on none.
use Rattle.std.proofs.Common.{◌≡◌, true, false, refl}
use Rattle.fn_tree.specs.Fronts.{NoClash}
use Rattle.fn_tree.specs.Grammar.{rule, opt}
use Rattle.fn_tree.specs.Language.{grammar, mark, commas}
use Rattle.fn_tree.specs.Rules.{expression}
use Rattle.fn_tree.specs.declared.lexeme.Mark.{Mark}
use Rattle.fn_tree.specs.declared.lexeme.Mark.TheVariants.{CloseParen, CloseBracket, Comma, Semicolon}
use Rattle.fn_tree.specs.declared.lexeme.Terminal.TheVariants.{Mark as Punctuation}
use Rattle.fn_tree.proofs.Language.{clear}
use Rattle.fn_tree.proofs.LanguageTables.{tables}
use Rattle.fn_tree.proofs.Tables.{starts}
use Rattle.fn_syntax.specs.Means.{closes}

pub closing_first : (m : Mark) → closes m ≡ true → NoClash grammar (rule expression) (mark m)
closing_first CloseParen h = clear _ _ refl refl
closing_first CloseBracket h = clear _ _ refl refl
closing_first Comma h = clear _ _ refl refl
closing_first Semicolon h = clear _ _ refl refl
closing_first m h = absurd (cc)

-- the marks that close a list of expressions
pub list_first : (m : Mark) → closes m ≡ true → (m ≡ Comma → ⊥) → NoClash grammar (opt (commas (rule expression))) (mark m)
list_first CloseParen h n = clear _ _ refl refl
list_first CloseBracket h n = clear _ _ refl refl
list_first Comma h n = absurd (n refl)
list_first Semicolon h n = clear _ _ refl refl
list_first m h n = absurd (cc)

pub closing_shut : (m : Mark) → closes m ≡ true → starts tables (commas (rule expression)) (Punctuation m) ≡ false
closing_shut CloseParen h = refl
closing_shut CloseBracket h = refl
closing_shut Comma h = refl
closing_shut Semicolon h = refl
closing_shut m h = absurd (cc)
