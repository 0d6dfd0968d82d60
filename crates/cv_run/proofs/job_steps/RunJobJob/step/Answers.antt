use Rattle.std.proofs.Common.{◌≡◌, ◌∙◌, Option, Some, option_map, sym, subst, IfOk}
use Rattle.std.specs.Prelude.{OnErr}
use Rattle.cv_run.specs.Unders.{under_attempt, under_job}
use Rattle.cv_run.specs.declared.attempt.Attempt.{Attempt}
use Rattle.cv_store.specs.Jobs.{Steps, AtMostDue}
use Rattle.cv_run.proofs.job_steps.RunJobJob.step.Goals as goal

pub returns-in-Some-clause-ok : goal.returns-in-Some-clause-ok
returns-in-Some-clause-ok g c =
    let s = g.S.Store.stands c.args.store.now in
    let t = g.S.Store.stands c.go_on_with.new.store in
    let n = c.args.runs.now.count in
    let was : Some c.in-Some.attempt ≡ c.args.self.now.attempt = sym c.in-Some.is ∙ c.take.ensures.value in
    subst (λ (x : Option Attempt). IfOk c.go_on_with.result (λ went. Steps s t c.args.call.now (option_map under_attempt x) (under_job c.go_on_with.new.self) n n went)) was
    (c.go_on_with.ensures.ok c.args.call.now n)

pub returns-in-Some-clause-turns : goal.returns-in-Some-clause-turns
returns-in-Some-clause-turns g c =
    let s = g.S.Store.stands c.args.store.now in
    let t = g.S.Store.stands c.go_on_with.new.store in
    let was : Some c.in-Some.attempt ≡ c.args.self.now.attempt = sym c.in-Some.is ∙ c.take.ensures.value in
    subst (λ (x : Option Attempt). OnErr c.go_on_with.result (AtMostDue s t (option_map under_attempt x))) was c.go_on_with.ensures.turns
