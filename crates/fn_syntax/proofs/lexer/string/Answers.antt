use Rattle.std.proofs.Common.{sym, ◌∙◌}
use Rattle.fn_syntax.proofs.Lexing.{string_found, no_string_found}
use Rattle.fn_syntax.proofs.lexer.string.Goals as goal

pub returns-in-Some : goal.returns-in-Some
returns-in-Some c = string_found c.args.contents.now c.in-Some.len (sym c.string_len.ensures.len ∙ c.in-Some.is)

pub returns-in-None : goal.returns-in-None
returns-in-None c = no_string_found c.args.contents.now (sym c.string_len.ensures.len ∙ c.in-None.is)
