use Rattle.std.proofs.Common.{◌≡◌, ◌≤◌, drop}
use Rattle.std.specs.Prelude.{min}
use Rattle.fn_tree.specs.Lexemes.{value_after}
use Rattle.fn_syntax.specs.Numbers.{greatest_word}
use Rattle.fn_syntax.proofs.number.value_of.Given as goal

abbrev pub invariant-loop-digit : goal.invariant-loop-digit
invariant-loop-digit l = (l.value ≤ greatest_word) × (min (value_after 0 l.digits) greatest_word ≡ min (value_after l.value (drop l.digit-index l.digits)) greatest_word)
