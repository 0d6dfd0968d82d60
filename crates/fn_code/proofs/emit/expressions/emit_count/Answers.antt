use Rattle.std.proofs.Common.{append_assoc}
use Rattle.fn_code.proofs.emit.expressions.emit_count.Goals as goal

pub returns : goal.returns
returns c = simp (c.in_ok-push.ensures.ok, c.new-top.ensures, c.in_ok-put.ensures, c.scan_of.ensures, c.index-numbers.ensures, c.as_slice.ensures, c.new-none.ensures, c.in_ok-index.ensures, append_assoc) at c.put-2.ensures
