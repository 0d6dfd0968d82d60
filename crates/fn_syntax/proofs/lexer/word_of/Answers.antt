use Rattle.fn_tree.specs.Lexemes.{word_of}
use Rattle.fn_syntax.proofs.lexer.word_of.Goals as goal

pub returns : goal.returns
unfolding word_of
returns c = c.find_word.ensures
