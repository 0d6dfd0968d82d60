use Rattle.std.proofs.Common.{sym, subst}
use Rattle.fn_code.specs.CodeMeans.{Means}
use Rattle.fn_code.specs.declared.code.Code.{Code}
use Rattle.fn_tree.specs.Functions.{course_of}
use Rattle.fn_tree.specs.SyntaxViews.{module_view}
use Rattle.fn_vm.specs.Machines.{start_view}
use Rattle.fn_trial.proofs.Driving.{whole_rest}
use Rattle.fn_trial.proofs.machine_run.Drive.start.Goals as goal

pub returns : goal.returns
returns c schema ds =
    let m = module_view c.args.program.now.checked.tree in
    let means : Means c.args.program.now.code m = subst (λ (x : Code). Means x m) (sym c.args.program.now.compiled) (c.codes_mean.ensures m) in
    let whole = course_of m (start_view c.args.start.now) in
    (whole, c.in_ok-start.ensures.goes m means, whole_rest schema ds whole c.new.result.items c.new-2.result.items c.new.ensures.items c.new-2.ensures.items)
