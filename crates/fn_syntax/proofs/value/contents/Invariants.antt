use Rattle.std.proofs.Common.{◌≡◌, ◌++◌, drop, false}
use Rattle.fn_tree.specs.LexemeValues.{contents}
use Rattle.fn_syntax.proofs.value.contents.Given as goal

abbrev pub invariant-loop-byte : goal.invariant-loop-byte
invariant-loop-byte l = contents false l.bytes ≡ l.said.items ++ contents l.escaped (drop l.byte-index l.bytes)
