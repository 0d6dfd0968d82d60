use Rattle.std.proofs.Common.{◌≡◌, ◌∙◌, ap, false}
use Rattle.fn_check.specs.Functions.{begun, completed, with_params}
use Rattle.fn_check.specs.Known.{Known}
use Rattle.fn_check.specs.Statements.{after_stmts}
use Rattle.fn_check.specs.declared.scope.Helper.{Helper}
use Rattle.fn_tree.specs.SyntaxTree.{FunctionTree}
use Rattle.fn_tree.specs.SyntaxViews.{function_view}
use Rattle.fn_check.proofs.function.check_function.Goals as goal

pub returns-clause-scope : goal.returns-clause-scope
returns-clause-scope c =
    let f : FunctionTree = function_view c.args.function.now in
    let body : c.check_body.new.scope ≡ _ = c.in_ok-check_body.ensures.scope ∙ ap (λ (k : Known). after_stmts (with_params k f.params) f.body) c.begin.ensures in
    let behind : c.begin-2.new.self ≡ begun c.args.scope.now false = c.begin-2.ensures ∙ ap (λ (k : Known). begun k false) body in
    c.in_ok-complete.ensures
    ∙ ap (λ (k : Known). completed f.kind k f.udf c.helper_made-helper.result) behind
    ∙ ap (λ (h : Helper). completed f.kind (begun c.args.scope.now false) f.udf h) c.helper_made-helper.ensures
