use Rattle.std.proofs.Common.{◌≡◌, ℕ, ◌+◌, ◌-◌, drop, sym, ap, ◌∙◌, arith}
use Rattle.cv_store.specs.Tails.{tail_entries}
use Rattle.cv_core.proofs.Tailed.{fitting_more, fitting_full, fitting_end, fitting_out, fitting_zero, moved}
use Rattle.cv_core.proofs.tail.fitting.Goals as goal

pub overflow_sub-end : goal.overflow_sub-end
overflow_sub-end c = omega (arith, c.requires, c.len-end.ensures.marks)

pub returns-then-taken-end-clause-fitting : goal.returns-then-taken-end-clause-fitting
returns-then-taken-end-clause-fitting c =
    let ms = c.args.log.now.marks in let taken = c.loop-taken.taken in
    fitting_out taken _ _ c.loop-taken.invariant.fitting
    (fitting_end ms (c.args.from + taken) (tail_entries - taken) c.loop-taken.room (omega (arith, c.requires, c.len-end.ensures.marks, c.if-taken-end.true)))

pub returns-then-count-room-clause-fitting : goal.returns-then-count-room-clause-fitting
returns-then-count-room-clause-fitting c =
    let ms = c.args.log.now.marks in let taken = c.loop-taken.taken in
    fitting_out taken _ _ c.loop-taken.invariant.fitting
    (fitting_full ms (c.args.from + taken) (tail_entries - taken) c.loop-taken.room (tail_entries - (taken + 1)) c.marks_of-count.result.now
    (omega (arith, c.requires, c.len-end.ensures.marks, c.if-taken-end.false)) (omega (arith, c.loop-taken-test.true)) c.marks_of-count.ensures
    (omega (arith, c.if-count-room.true)))

pub loop-taken-preserved : goal.loop-taken-preserved
loop-taken-preserved c =
    let ms = c.args.log.now.marks in let taken = c.loop-taken.taken in
    record {
      fitting =
          c.loop-taken.invariant.fitting
          ∙ ap (λ (n : ℕ). taken + n) (fitting_more ms (c.args.from + taken) (tail_entries - taken) c.loop-taken.room (tail_entries - (taken + 1)) c.marks_of-count.result.now
          (omega (arith, c.requires, c.len-end.ensures.marks, c.if-taken-end.false)) (omega (arith, c.loop-taken-test.true)) c.marks_of-count.ensures
          (c.args.from + (taken + 1)) (omega arith) (omega (arith, c.if-count-room.false)))
          ∙ moved taken _;
      within = omega (arith, c.requires, c.len-end.ensures.marks, c.if-taken-end.false);
    }

pub returns-clause-fitting : goal.returns-clause-fitting
returns-clause-fitting c =
    let ms = c.args.log.now.marks in let taken = c.loop-taken.taken in
    let whole : taken ≡ 256 = omega (arith, c.loop-taken-test.false, c.loop-taken.auto.taken-end) in
    sym whole ∙ fitting_out taken _ _ c.loop-taken.invariant.fitting (fitting_zero (tail_entries - taken) c.loop-taken.room (drop (c.args.from + taken) ms) (omega (arith, whole)))
