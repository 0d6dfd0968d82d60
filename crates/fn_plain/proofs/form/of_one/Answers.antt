use Rattle.std.proofs.Common.{◌∙◌, ap}
use Rattle.std.proofs.lemmas.Result.{IfErr-weaker}
use Rattle.cv_values.specs.Trees.{tree}
use Rattle.fn_tree.proofs.FormViews.{form-Get, form-Insert, form-Delete}
use Rattle.fn_tree.specs.SyntaxTree.{Form}
use Rattle.fn_tree.specs.SyntaxViews.{form_view}
use Rattle.fn_plain.specs.Forms.{after_one}
use Rattle.fn_plain.specs.States.{site_at}
use Rattle.fn_plain.proofs.Steps.{fails_as}
use Rattle.fn_plain.proofs.form.of_one.Goals as goal

pub returns-in-Get-clause-err : goal.returns-in-Get-clause-err
returns-in-Get-clause-err c n =
    let s = site_at c.args.context.now n in
    let m = ap (λ (f : Form). after_one f s (tree c.args.v)) (ap form_view c.in-Get.is ∙ form-Get c.in-Get.field-0) in
    IfErr-weaker c.get_value.result _ _ (λ e k. fails_as c.args.context.now c.args.progress.now c.get_value.new.progress e m k) (c.get_value.ensures.err n)

pub returns-in-Insert-clause-err : goal.returns-in-Insert-clause-err
returns-in-Insert-clause-err c n =
    let s = site_at c.args.context.now n in
    let m = ap (λ (f : Form). after_one f s (tree c.args.v)) (ap form_view c.in-Insert.is ∙ form-Insert c.in-Insert.table c.in-Insert.field-1) in
    IfErr-weaker c.insert_value.result _ _ (λ e k. fails_as c.args.context.now c.args.progress.now c.insert_value.new.progress e m k) (c.insert_value.ensures.err n)

pub returns-in-Delete-clause-err : goal.returns-in-Delete-clause-err
returns-in-Delete-clause-err c n =
    let s = site_at c.args.context.now n in
    let m = ap (λ (f : Form). after_one f s (tree c.args.v)) (ap form_view c.in-Delete.is ∙ form-Delete c.in-Delete.field-0) in
    IfErr-weaker c.delete_value.result _ _ (λ e k. fails_as c.args.context.now c.args.progress.now c.delete_value.new.progress e m k) (c.delete_value.ensures.err n)
