use Rattle.std.proofs.Common.{◌∙◌, ap}
use Rattle.std.proofs.lemmas.Result.{IfOk-weaker, IfErr-weaker}
use Rattle.cv_values.specs.Trees.{tree}
use Rattle.fn_tree.proofs.FormViews.{form-Patch, form-Replace}
use Rattle.fn_tree.specs.SyntaxTree.{Form}
use Rattle.fn_tree.specs.SyntaxViews.{form_view}
use Rattle.fn_plain.specs.Forms.{after_two}
use Rattle.fn_plain.specs.States.{site_at}
use Rattle.fn_plain.proofs.Steps.{gives_as, fails_as}
use Rattle.fn_plain.proofs.form.of_two.Goals as goal

pub returns-in-Patch-clause-ok : goal.returns-in-Patch-clause-ok
returns-in-Patch-clause-ok c n =
    let s = site_at c.args.context.now n in
    let m = ap (λ (f : Form). after_two f s (tree c.args.v) (tree c.args.w)) (ap form_view c.in-Patch.is ∙ form-Patch c.in-Patch.field-0 c.in-Patch.field-1) in
    IfOk-weaker c.change_value.result _ _ (λ r k. gives_as m k) (c.change_value.ensures.ok n)

pub returns-in-Patch-clause-err : goal.returns-in-Patch-clause-err
returns-in-Patch-clause-err c n =
    let s = site_at c.args.context.now n in
    let m = ap (λ (f : Form). after_two f s (tree c.args.v) (tree c.args.w)) (ap form_view c.in-Patch.is ∙ form-Patch c.in-Patch.field-0 c.in-Patch.field-1) in
    IfErr-weaker c.change_value.result _ _ (λ e k. fails_as c.args.context.now c.args.progress.now c.change_value.new.progress e m k) (c.change_value.ensures.err n)

pub returns-in-Replace-clause-ok : goal.returns-in-Replace-clause-ok
returns-in-Replace-clause-ok c n =
    let s = site_at c.args.context.now n in
    let m = ap (λ (f : Form). after_two f s (tree c.args.v) (tree c.args.w)) (ap form_view c.in-Replace.is ∙ form-Replace c.in-Replace.field-0 c.in-Replace.field-1) in
    IfOk-weaker c.change_value-in-Replace.result _ _ (λ r k. gives_as m k) (c.change_value-in-Replace.ensures.ok n)

pub returns-in-Replace-clause-err : goal.returns-in-Replace-clause-err
returns-in-Replace-clause-err c n =
    let s = site_at c.args.context.now n in
    let m = ap (λ (f : Form). after_two f s (tree c.args.v) (tree c.args.w)) (ap form_view c.in-Replace.is ∙ form-Replace c.in-Replace.field-0 c.in-Replace.field-1) in
    IfErr-weaker c.change_value-in-Replace.result _ _ (λ e k. fails_as c.args.context.now c.args.progress.now c.change_value-in-Replace.new.progress e m k) (c.change_value-in-Replace.ensures.err n)
