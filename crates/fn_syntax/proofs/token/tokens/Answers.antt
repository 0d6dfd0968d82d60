use Rattle.fn_syntax.proofs.Places.{tokens_apart}
use Rattle.fn_syntax.proofs.token.tokens.Goals as goal

pub returns-clause-places : goal.returns-clause-places
returns-clause-places c = rw (c.in_ok-tokens_from-in-None.ensures, c.as_slice.ensures.value, c.in_ok-lexed.ensures.lexemes) (tokens_apart c.args.text.now)
