use Rattle.std.proofs.Common.{sym, ◌∙◌}
use Rattle.cv_core.specs.Solos.{stands_of}
use Rattle.cv_run.specs.Unders.{under_job}
use Rattle.cv_trial.proofs.Turns.{after_step, other_over}
use Rattle.cv_trial.proofs.turn_tests.Two.step_second.Goals as goal

pub invariant_of-self : goal.invariant_of-self
invariant_of-self c =
    let s = stands_of c.self.inside.store in
    let t = stands_of c.step.new.store in
    let is = c.self.invariant in
    let after = after_step c.step.result s t c.self.inside.second_call (under_job c.self.inside.second) (under_job c.step.new.self) _ _ c.step.ensures.ok c.step.ensures.store c.step.ensures.under is.2 in
    (is.0 ∙ sym after.0.program, other_over s t c.self.inside.first_call (under_job c.self.inside.first) after.0 is.1, after.1)
