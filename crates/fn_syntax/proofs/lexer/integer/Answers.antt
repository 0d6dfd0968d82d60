use Rattle.std.proofs.Common.{sym, ◌∙◌}
use Rattle.fn_syntax.proofs.Lexing.{integer_found, no_integer_found}
use Rattle.fn_syntax.proofs.lexer.integer.Goals as goal

pub returns-then-says_integer : goal.returns-then-says_integer
returns-then-says_integer c =
    integer_found c.args.bytes.now c.digits_len-len.result c.digits_len-len.ensures.len (sym c.says_integer.ensures ∙ c.if-says_integer.true)

pub returns-else-says_integer : goal.returns-else-says_integer
returns-else-says_integer c =
    no_integer_found c.args.bytes.now c.digits_len-len.result c.digits_len-len.ensures.len (sym c.says_integer.ensures ∙ c.if-says_integer.false)
