use Rattle.std.proofs.Common.{sym, subst}
use Rattle.std.proofs.lemmas.Result.{IfOk-weaker}
use Rattle.fn_tree.specs.SyntaxViews.{module_view}
use Rattle.fn_code.specs.CodeMeans.{Means}
use Rattle.fn_code.specs.declared.code.Code.{Code}
use Rattle.fn_code.proofs.CodesMean.{codes_mean}
use Rattle.fn_code.proofs.compiler.compile.Goals as goal

pub returns-clause-means : goal.returns-clause-means
returns-clause-means c = IfOk-weaker c.code_of.result _ _ (λ code e. subst (λ (x : Code). Means x (module_view c.args.c.now.tree)) (sym e) (codes_mean (module_view c.args.c.now.tree))) c.code_of.ensures
