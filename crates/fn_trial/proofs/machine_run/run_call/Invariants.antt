use Rattle.std.proofs.Common.{◌-◌, []}
use Rattle.fn_tree.specs.Functions.{course_of}
use Rattle.fn_tree.specs.SyntaxViews.{module_view}
use Rattle.fn_vm.specs.Machines.{start_view}
use Rattle.fn_trial.specs.Driven.{Drives, behind, stops}
use Rattle.fn_trial.proofs.machine_run.run_call.Given as goal

-- the machine goes by the rest of the call's course
abbrev pub invariant-loop-drive : goal.invariant-loop-drive
invariant-loop-drive l = Drives l.program.code l.schema l.docs (course_of (module_view l.program.checked.tree) (start_view l.start)) l.drive

-- so many stops are to come
abbrev pub decreases-loop-drive : goal.decreases-loop-drive
decreases-loop-drive l = stops l.schema l.docs [] (course_of (module_view l.program.checked.tree) (start_view l.start)) - behind l.drive
