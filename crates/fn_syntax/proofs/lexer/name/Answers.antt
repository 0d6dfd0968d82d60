use Rattle.std.proofs.Common.{sym, ◌∙◌}
use Rattle.std.specs.Prelude.{Some, None}
use Rattle.fn_syntax.proofs.Lexing.{name_found}
use Rattle.fn_syntax.proofs.lexer.name.Goals as goal

pub returns-in-Some : goal.returns-in-Some
returns-in-Some c =
    name_found c.args.bytes.now c.name_len-len.result (Some c.in-Some.word) c.name_len-len.ensures.len (sym c.in-Some.is ∙ c.word_of.ensures)

pub returns-in-None : goal.returns-in-None
returns-in-None c =
    name_found c.args.bytes.now c.name_len-len.result None c.name_len-len.ensures.len (sym c.in-None.is ∙ c.word_of.ensures)
