use Rattle.fn_vm.specs.Machines.{start_view}
use Rattle.cv_run.proofs.starts.start_run.Goals as goal

pub returns-clause-ok : goal.returns-clause-ok
returns-clause-ok c ds fresh = c.first_pause.ensures.ok (start_view c.args.start.now) ds fresh c.in_ok-machine.ensures.goes
