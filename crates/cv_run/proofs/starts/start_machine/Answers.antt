use Rattle.std.proofs.Common.{sym, subst}
use Rattle.cv_run.proofs.StartLemmas.{counted_ok}
use Rattle.fn_code.specs.CodeMeans.{Means}
use Rattle.fn_code.specs.declared.code.Code.{Code}
use Rattle.fn_tree.specs.SyntaxViews.{module_view}
use Rattle.cv_run.proofs.starts.start_machine.Goals as goal

pub returns-clause-goes : goal.returns-clause-goes
returns-clause-goes c =
    let p = c.args.program.now in
    let m = module_view p.checked.tree in
    c.start.ensures.goes m (subst (λ (x : Code). Means x m) (sym p.compiled) (c.codes_mean.ensures m))

pub returns-clause-ok : goal.returns-clause-ok
returns-clause-ok c = counted_ok c.start.result c.args.runs.now.count c.start.new.runs.count c.count_fits.ensures c.start.ensures.ok
