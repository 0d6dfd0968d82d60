use Rattle.cv_run.proofs.StartLemmas.{starts}
use Rattle.fn_tree.specs.SyntaxViews.{module_view}
use Rattle.cv_run.proofs.starts.first_pause.Goals as goal

pub returns-clause-ok : goal.returns-clause-ok
returns-clause-ok c s ds fresh goes =
    let p = c.args.program.now in
    let m = module_view p.checked.tree in
    c.in_ok-pause.ensures.ok m s ds (starts p.code m s ds c.args.machine c.new-tx.result c.args.ts c.new-tx.ensures fresh goes)
