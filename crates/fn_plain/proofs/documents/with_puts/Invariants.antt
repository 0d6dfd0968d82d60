use Rattle.std.proofs.Common.{◌≡◌, drop}
use Rattle.fn_tree.specs.Run.{with_puts}
use Rattle.fn_plain.proofs.documents.with_puts.Given as goal

abbrev pub invariant-loop-put : goal.invariant-loop-put
invariant-loop-put l = with_puts (drop l.put-index l.puts) l.docs.items ≡ with_puts l.puts l.base
