use Rattle.std.proofs.Common.{◌≡◌, ◌∙◌, Some, sym, ap, subst}
use Rattle.cv_run.proofs.StartLemmas.{first_paused}
use Rattle.fn_tree.specs.Functions.{Start}
use Rattle.fn_tree.specs.History.{start_of, docs_at}
use Rattle.fn_tree.specs.PutLaws.{IsFresh}
use Rattle.fn_tree.specs.SyntaxViews.{module_view}
use Rattle.fn_tree.specs.declared.start.Origin.{Origin}
use Rattle.cv_run.proofs.steps.start_attempt.Goals as goal

pub invariant_of-result : goal.invariant_of-result
invariant_of-result g c =
    let store = g.S.Store.stands c.args.store.now in
    let p = c.args.program.now in
    let tree : module_view c.of_module-meant.result.tree ≡ module_view p.checked.tree = ap module_view (c.of_module-meant.ensures ∙ c.module.ensures.same) in
    let r = c.in_ok-machine in
    let call = c.args.call.now in
    let ds = docs_at store.seen c.args.ts in
    let from : Origin = c.origin_of.result in
    let s : Start = record { udf = call.udf; args = call.args; origin = Some from } in
    let new = c.snapshots_hold.ensures.fresh store.program store.seen call c.requires.legal c.requires.new c.args.ts in
    let fresh = subst (λ (o : Origin). IsFresh (Some o) 0 ds) (sym c.origin_of.ensures) new in
    let same : s ≡ start_of call = ap (λ (o : Origin). let x : Start = record { udf = call.udf; args = call.args; origin = Some o } in x) c.origin_of.ensures in
    record {
      paused = first_paused (module_view p.checked.tree) (module_view c.of_module-meant.result.tree) store.program p.code store.seen c.of-seen.result.history call c.in_ok-copied.copied s c.args.ts
          r.machine r.tx r.pause c.requires.legal c.requires.all r.ensures.snapshot p.compiled tree c.of-seen.ensures
          c.in_ok-copied.ensures same (r.ensures.ok ds fresh);
    }
