use Rattle.std.proofs.Common.{Option, arith, subst}
use Rattle.cv_keys.specs.declared.schema.Schema.{Schema}
use Rattle.fn_tree.specs.Functions.{course_of}
use Rattle.fn_tree.specs.SyntaxViews.{module_view}
use Rattle.fn_tree.specs.declared.stop.Outcome.{Outcome}
use Rattle.fn_vm.specs.Machines.{start_view}
use Rattle.fn_trial.specs.Driven.{Ends, OneMore, Steps}
use Rattle.fn_trial.proofs.Driving.{none_left}
use Rattle.fn_trial.proofs.machine_run.run_call.Goals as goal

pub returns-in-Some : goal.returns-in-Some
returns-in-Some c =
    let m = module_view c.args.program.now.checked.tree in
    let s = start_view c.args.start.now in
    let docs = c.args.docs.now in
    let whole = course_of m s in
    let schema = c.schema-schema.result.now in
    let ends : Ends schema docs whole c.step.new.self c.in-Some.outcome = subst (λ (o : Option Outcome). Steps c.args.program.now.code schema docs whole c.loop-drive.drive c.step.new.self o) c.in-Some.is (c.in_ok-outcome.ensures whole c.loop-drive.invariant) in
    c.finish.ensures m s (subst (λ (x : Schema). Ends x docs whole c.step.new.self c.in-Some.outcome) c.schema-schema.ensures.schema ends)

pub loop-drive-smaller : goal.loop-drive-smaller
loop-drive-smaller c =
    let whole = course_of (module_view c.args.program.now.checked.tree) (start_view c.args.start.now) in
    let schema = c.schema-schema.result.now in
    let more : OneMore c.args.program.now.code schema c.args.docs.now whole c.loop-drive.drive c.step.new.self = subst (λ (o : Option Outcome). Steps c.args.program.now.code schema c.args.docs.now whole c.loop-drive.drive c.step.new.self o) (none_left c.in_ok-outcome.field-0 c.in_default.not-Some) (c.in_ok-outcome.ensures whole c.loop-drive.invariant) in
    omega (arith, more.more, more.drives.2.counted)

pub loop-drive-preserved : goal.loop-drive-preserved
loop-drive-preserved c =
    let whole = course_of (module_view c.args.program.now.checked.tree) (start_view c.args.start.now) in
    let schema = c.schema-schema.result.now in
    let more : OneMore c.args.program.now.code schema c.args.docs.now whole c.loop-drive.drive c.step.new.self = subst (λ (o : Option Outcome). Steps c.args.program.now.code schema c.args.docs.now whole c.loop-drive.drive c.step.new.self o) (none_left c.in_ok-outcome.field-0 c.in_default.not-Some) (c.in_ok-outcome.ensures whole c.loop-drive.invariant) in
    more.drives
