-- The tokens of a text stand apart in it.
use Rattle.std.proofs.Common.{ℕ, ◌+◌, List, [], ◌∷◌, length}
use Rattle.std.specs.Prelude.{map}
use Rattle.fn_tree.specs.LexemeLaws.{StandApart as LexemesApart}
use Rattle.fn_tree.specs.Lexemes.{lexemes_of}
use Rattle.fn_tree.specs.declared.lexeme.Lexeme.{Lexeme}
use Rattle.fn_tree.proofs.Places.{tokens_stand_apart}
use Rattle.fn_syntax.specs.Tokens.{token_of, tokens_of, StandApart}

each_apart : (from to : ℕ) (xs : List Lexeme) → LexemesApart from to xs → StandApart from to (map token_of xs)
each_apart from to [] a = a
each_apart from to (x ∷ xs) a = (a.0, a.1, each_apart (x.at + x.len) to xs a.2)

pub tokens_apart : (text : List ℕ) → StandApart 0 (length text) (tokens_of text)
tokens_apart text = each_apart 0 (length text) (lexemes_of text).lexemes (tokens_stand_apart text)
