use Rattle.std.proofs.Common.{◌+◌, ◌-◌, ◌*◌, ◌∙◌, ap, sym, arith}
use Rattle.cv_values.proofs.Hex.{step_fits}
use Rattle.cv_keys.proofs.ReadHex.{read_more, below_more}
use Rattle.cv_keys.specs.KeyIds.{read_digits}
use Rattle.cv_keys.proofs.ids.take_hex.Goals as goal

pub overflow_mul-number : goal.overflow_mul-number
overflow_mul-number c = omega (arith, step_fits c.loop-i._i c.loop-i.number 0 (omega arith) c.loop-i.invariant.below (omega arith))

pub overflow_add-number : goal.overflow_add-number
overflow_add-number c = omega (arith, step_fits c.loop-i._i c.loop-i.number c.in_ok-d.d (omega arith) c.loop-i.invariant.below c.in_ok-d.ensures.below)

pub loop-i-preserved : goal.loop-i-preserved
loop-i-preserved c =
    record {
      below = below_more c.loop-i._i c.loop-i.number c.from.result c.loop-i.invariant.below (omega (arith, c.in_ok-d.ensures.below, c.from.ensures));
      read = ap (λ d. read_digits (c.args.width - (c.loop-i._i + 1)) (c.loop-i.number * 16 + d) c.in_ok-c.more.now) c.from.ensures
          ∙ sym (read_more c.args.width c.loop-i._i c.loop-i.number c.in_ok-c.c.now c.in_ok-d.d c.loop-i.rest.now c.in_ok-c.more.now (omega arith) c.in_ok-c.ensures.cases.0 (sym c.in_ok-d.ensures.value))
          ∙ c.loop-i.invariant.read;
    }
