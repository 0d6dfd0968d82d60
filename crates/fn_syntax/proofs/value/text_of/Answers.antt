use Rattle.fn_syntax.proofs.Texts.{text_whole, text_none}
use Rattle.fn_syntax.proofs.value.text_of.Goals as goal

pub returns-in-Ok : goal.returns-in-Ok
returns-in-Ok c = let text = c.in-Ok.ensures in rw (text_whole c.args.bytes.now text.1) (rw text.0 at c.of.ensures)

pub returns-in-Err : goal.returns-in-Err
returns-in-Err c = let stop = c.in-Err.ensures in let at = rw stop.0 at stop.1 in rw (text_none c.args.bytes.now at) c.of-in-Err.ensures
