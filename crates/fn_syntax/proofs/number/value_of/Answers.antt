use Rattle.std.proofs.Common.{arith}
use Rattle.fn_tree.specs.Lexemes.{integer_value}
use Rattle.fn_syntax.specs.Numbers.{greatest_word}
use Rattle.fn_syntax.proofs.Numbers.{held_next, held_end}
use Rattle.fn_syntax.proofs.number.value_of.Goals as goal

pub loop-digit-preserved : goal.loop-digit-preserved
loop-digit-preserved c = (
  omega (arith, c.saturating_add-value.type_inv),
  held_next c.args.digits.now c.loop-digit.digit-index c.loop-digit.value c.saturating_add-value.result greatest_word _
      c.loop-digit-test.true c.loop-digit.invariant.1 (cc),
)

pub returns : goal.returns
unfolding integer_value
returns c =
    held_end c.args.digits.now c.loop-digit.digit-index c.loop-digit.value greatest_word _ c.loop-digit-test.false c.loop-digit.invariant.0 c.loop-digit.invariant.1
