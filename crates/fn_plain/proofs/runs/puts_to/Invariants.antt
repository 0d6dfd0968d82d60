use Rattle.std.proofs.Common.{◌≡◌, drop}
use Rattle.fn_tree.specs.Run.{puts_to}
use Rattle.fn_plain.proofs.runs.puts_to.Given as goal

abbrev pub invariant-loop-put : goal.invariant-loop-put
invariant-loop-put l = puts_to l.id (drop l.put-index l.puts) ≡ puts_to l.id l.puts
