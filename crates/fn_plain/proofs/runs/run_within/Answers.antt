use Rattle.std.proofs.Common.{◌≡◌, ◌∙◌, map, sym, ap}
use Rattle.std.specs.Prelude.{Some, None, option_map}
use Rattle.std.proofs.lemmas.Result.{IfOk-weaker}
use Rattle.cv_values.specs.Trees.{tree}
use Rattle.fn_tree.specs.Functions.{arguments_for}
use Rattle.fn_tree.specs.SyntaxViews.{function_view}
use Rattle.fn_plain.specs.Runs.{start_view, function_at}
use Rattle.fn_plain.specs.States.{limits_of}
use Rattle.fn_plain.proofs.Calls.{unknown, called}
use Rattle.fn_plain.proofs.Starts.{number-of}
use Rattle.fn_plain.proofs.runs.run_within.Goals as goal

pub returns-in_default : goal.returns-in_default
returns-in_default c tables same =
    let fs = map function_view c.args.functions.now in
    unknown (limits_of c.args.limits.now) fs (start_view c.args.start.now) c.args.docs.now c.args.schema.now tables same c.kind_of-kind.result c.kind_of-kind.ensures
    c.failed_at_start.result (λ a. c.find_function.ensures.found a ∙ ap (function_at a fs) c.in_default.is) c.failed_at_start.ensures

pub returns-in_default-2 : goal.returns-in_default-2
returns-in_default-2 c tables same =
    let fs = map function_view c.args.functions.now in
    let f = c.index-functions-number.result in
    let there = number-of c.args.functions.now c.in-Some.number f c.in-Some.ensures.there c.index-functions-number.is in
    let values : None ≡ arguments_for f.params.items c.args.start.now.args.now =
    ap (option_map (λ vs. map tree vs.items)) (sym c.in_default-2.is) ∙ c.in_ok-values.ensures ∙ ap (λ ps. arguments_for ps c.args.start.now.args.now) c.as_slice.ensures.value in
    called (limits_of c.args.limits.now) fs (start_view c.args.start.now) c.args.docs.now c.args.schema.now tables same c.kind_of-kind.result c.kind_of-kind.ensures
    c.in-Some.number (function_view f) there (λ a. c.find_function.ensures.found a ∙ ap (function_at a fs) c.in-Some.is)
    c.failed_at_start-in_default-2.result None values
    (IfOk-weaker c.failed_at_start-in_default-2.result _ _ (λ run k. k c.args.schema.now) c.failed_at_start-in_default-2.ensures)

pub returns : goal.returns
returns c tables same =
    let fs = map function_view c.args.functions.now in
    let f = c.index-functions-number.result in
    let there = number-of c.args.functions.now c.in-Some.number f c.in-Some.ensures.there c.index-functions-number.is in
    let values : Some (map tree c.in-Some-2.values.items) ≡ arguments_for f.params.items c.args.start.now.args.now =
    ap (option_map (λ vs. map tree vs.items)) (sym c.in-Some-2.is) ∙ c.in_ok-values.ensures ∙ ap (λ ps. arguments_for ps c.args.start.now.args.now) c.as_slice.ensures.value in
    called (limits_of c.args.limits.now) fs (start_view c.args.start.now) c.args.docs.now c.args.schema.now tables same c.kind_of-kind.result c.kind_of-kind.ensures
    c.in-Some.number (function_view f) there (λ a. c.find_function.ensures.found a ∙ ap (function_at a fs) c.in-Some.is)
    c.play_run-run.result (Some (map tree c.in-Some-2.values.items)) values
    (c.play_run-run.ensures (function_view f) there)
