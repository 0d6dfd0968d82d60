use Rattle.fn_tree.specs.Lexemes.{mark_of}
use Rattle.fn_syntax.proofs.lexer.mark_of.Goals as goal

pub returns : goal.returns
unfolding mark_of
returns c = c.find_mark.ensures
