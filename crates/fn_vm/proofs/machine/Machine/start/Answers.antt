use Rattle.fn_code.specs.CodeMeans.{start, terms_of}
use Rattle.fn_tree.specs.Functions.{course_of}
use Rattle.fn_vm.specs.Machines.{start_view}
use Rattle.fn_vm.proofs.Machines.{begins_goes}
use Rattle.fn_vm.proofs.machine.Machine.start.Goals as goal

pub returns-clause-goes : goal.returns-clause-goes
returns-clause-goes c m means =
    let s = start_view c.args.start.now in
    begins_goes c.args.code.now (course_of m s) (terms_of s) c.in_ok-machine.machine (start c.args.code.now s) c.in_ok-machine.ensures (means s)
