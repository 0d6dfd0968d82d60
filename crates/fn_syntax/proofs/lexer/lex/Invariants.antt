use Rattle.std.proofs.Common.{◌-◌, length}
use Rattle.fn_syntax.proofs.Reading.{IsReadTo}
use Rattle.fn_syntax.proofs.lexer.lex.Given as goal

abbrev pub invariant-loop-at : goal.invariant-loop-at
invariant-loop-at l = IsReadTo l.bytes l.at l.lexemes.items

abbrev pub decreases-loop-at : goal.decreases-loop-at
decreases-loop-at l = length l.bytes - l.at
