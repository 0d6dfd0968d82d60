use Rattle.std.proofs.Common.{Option, [], sym, subst, ◌∙◌}
use Rattle.cv_core.specs.Solos.{stands_of}
use Rattle.cv_run.specs.Unders.{under_job}
use Rattle.cv_store.specs.Jobs.{Under, GoesOnOver}
use Rattle.cv_trial.proofs.Turns.{extended, other_over}
use Rattle.cv_trial.proofs.turn_tests.Two.answer.Goals as goal

pub invariant_of-self : goal.invariant_of-self
invariant_of-self c =
    let s = stands_of c.self.inside.store in
    let t = stands_of c.answer-answered.new.store in
    let is = c.self.invariant in
    let later = extended s t [] c.answer-answered.ensures.store in
    let first = other_over s t c.self.inside.first_call (under_job c.self.inside.first) later is.1 in (
      is.0 ∙ sym later.program,
      subst (λ (u : Option Under). GoesOnOver u t c.self.inside.first_call) (sym c.answer-answered.ensures.under) first,
      other_over s t c.self.inside.second_call (under_job c.self.inside.second) later is.2,
    )
