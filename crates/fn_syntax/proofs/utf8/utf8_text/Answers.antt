use Rattle.std.proofs.lemmas.Str.{utf8_valid_len-IsUtf8}
use Rattle.fn_syntax.proofs.utf8.utf8_text.Goals as goal

pub returns-in-Ok : goal.returns-in-Ok
returns-in-Ok c = let text = c.in-Ok.ensures.cases in (text.0, utf8_valid_len-IsUtf8 c.args.bytes.now text.1)
