use Rattle.std.proofs.Common.{◌≡◌, ◌∙◌, ◌+◌, drop, List, sym, ap}
use Rattle.std.specs.Prelude.{Some, option_map}
use Rattle.std.specs.BTreeMap.{is_at}
use Rattle.std.specs.Map.{lookup}
use Rattle.cv_values.specs.Order.{text_cmp}
use Rattle.cv_values.specs.Trees.{tree}
use Rattle.cv_values.specs.declared.val.Val.{Val}
use Rattle.fn_code.specs.CodeMeans.{values_of}
use Rattle.fn_vm.proofs.Arguments.{and_rest, values_step}
use Rattle.fn_vm.proofs.start.arguments_of.Goals as goal

pub loop-param-preserved : goal.loop-param-preserved
loop-param-preserved c =
    let args = c.args.args.now in
    let i = c.loop-param.param-index in
    let found : lookup (is_at (text_cmp c.param-item.result)) args ≡ Some (tree c.in_ok-copy.field-0) =
    sym c.get.ensures ∙ ap (option_map (λ v. tree v.now)) c.in-Some.is ∙ ap (λ (v : Val). Some (tree v)) (sym c.in_ok-copy.ensures) in
    ap (λ (vs : List Val). and_rest vs (values_of (drop (i + 1) c.args.params.now) args)) c.in_ok-push.ensures.items
    ∙ values_step args c.args.params.now i c.param-item.result c.loop-param-test.true c.param-item.is c.loop-param.values.items c.in_ok-copy.field-0 found
    ∙ c.loop-param.invariant
