-- Laws of the tokens of texts.
use Rattle.std.specs.Prelude.{◌≡◌, ℕ, ◌+◌, ◌<◌, ◌≤◌, List, [], ◌∷◌, length, drop, Some, All}
use Rattle.std.specs.Str.{IsUtf8}
use Rattle.fn_tree.specs.Lexemes.{begins, lexemes_of, integer_value, greatest_integer}
use Rattle.fn_tree.specs.LexemeValues.{slice_of, text_of, string_value}
use Rattle.fn_tree.specs.declared.begin.Begin.TheVariants.{Token}
use Rattle.fn_tree.specs.declared.lexeme.Lexeme.{Lexeme}
use Rattle.fn_tree.specs.declared.lexeme.Terminal.TheVariants.{Integer}

-- tokens that stand apart, in order, none of them empty, from one place up to another
abbrev pub StandApart : ℕ → ℕ → List Lexeme → Type 0
StandApart from to [] = from ≤ to
StandApart from to (x ∷ xs) = (from ≤ x.at) × (0 < x.len) × StandApart (x.at + x.len) to xs

-- the tokens of a text stand apart in it
abbrev pub TokensStandApart : Type 0
TokensStandApart = (text : List ℕ) → StandApart 0 (length text) (lexemes_of text).lexemes

-- they stand apart before the place at which no token begins, which is in the text
abbrev pub BadComesAfter : Type 0
BadComesAfter = (text : List ℕ) (bad : ℕ) → (lexemes_of text).bad ≡ Some bad → StandApart 0 bad (lexemes_of text).lexemes × (bad < length text)

-- each token of a text is what the text begins with at its place
abbrev pub TokensAreRead : Type 0
TokensAreRead = (text : List ℕ) → All (λ (x : Lexeme). begins (drop x.at text) ≡ Token x.terminal x.len) (lexemes_of text).lexemes

-- no integer of a text is greater than the greatest
abbrev pub IntegersFit : Type 0
IntegersFit = (text : List ℕ) → All (λ (x : Lexeme). x.terminal ≡ Integer → integer_value (slice_of text x) ≤ greatest_integer) (lexemes_of text).lexemes

-- the bytes of a UTF-8 text's tokens are texts, and what its strings say are texts
abbrev pub TokensAreTexts : Type 0
TokensAreTexts = (text : List ℕ) → IsUtf8 text →
    All (λ (x : Lexeme). (text_of (slice_of text x) ≡ slice_of text x) × (text_of (string_value (slice_of text x)) ≡ string_value (slice_of text x))) (lexemes_of text).lexemes
