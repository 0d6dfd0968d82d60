-- Tokens as other programs see them.
use Rattle.std.specs.Prelude.{ℕ, ◌+◌, ◌<◌, ◌≤◌, List, [], ◌∷◌, map}
use Rattle.fn_tree.specs.Lexemes.{lexemes_of}
use Rattle.fn_tree.specs.declared.lexeme.Lexeme.{Lexeme}
use Rattle.fn_tree.specs.declared.lexeme.Terminal.{Terminal}
use Rattle.fn_tree.specs.declared.lexeme.Terminal.TheVariants.{Name, Integer, Str, Word, Mark}
use Rattle.fn_syntax.specs.declared.token.Token.{Token}
use Rattle.fn_syntax.specs.declared.token.TokenKind.{TokenKind}
use Rattle.fn_syntax.specs.declared.token.TokenKind.TheVariants.{Name as AName, Reserved, Integer as AnInteger, Str as AStr, Mark as AMark}

-- the kind of a token
abbrev pub kind_of : Terminal → TokenKind
kind_of Name = AName
kind_of Integer = AnInteger
kind_of Str = AStr
kind_of (Word w) = Reserved
kind_of (Mark m) = AMark

abbrev pub token_of : Lexeme → Token
token_of x = record { kind = kind_of x.terminal; at = x.at; len = x.len }

-- the tokens of a text
abbrev pub tokens_of : List ℕ → List Token
tokens_of text = map token_of (lexemes_of text).lexemes

-- tokens that stand apart, in order, none of them empty, from one place up to another
abbrev pub StandApart : ℕ → ℕ → List Token → Type 0
StandApart from to [] = from ≤ to
StandApart from to (t ∷ ts) = (from ≤ t.at) × (0 < t.len) × StandApart (t.at + t.len) to ts
