use Rattle.std.proofs.Common.{Option, refl, sym, ap, subst}
use Rattle.cv_store.specs.Jobs.{Under}
use Rattle.fn_tree.specs.SyntaxViews.{module_view}
use Rattle.cv_stand.specs.Underway.{InCall, started}
use Rattle.cv_stand.proofs.call.play_out.Goals as goal

pub loop-job-init : goal.loop-job-init
loop-job-init c =
    let m = module_view c.args.program.now.checked.tree in
    record {
      in_call = subst (λ (u : Option Under). InCall m c.args.call.now c.args.store.now u) (sym c.new-job.ensures) c.requires;
      log = refl;
      runs = sym (ap (λ (u : Option Under). started u c.args.runs.now.count) c.new-job.ensures);
    }
