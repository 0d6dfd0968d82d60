use Rattle.std.proofs.Common.{◌∙◌, ap}
use Rattle.std.proofs.lemmas.Result.{IfOk-weaker, IfErr-weaker}
use Rattle.fn_tree.proofs.FormViews.{form-Scan}
use Rattle.fn_tree.specs.SyntaxTree.{Form}
use Rattle.fn_tree.specs.SyntaxViews.{form_view}
use Rattle.fn_plain.specs.Forms.{after_bounds}
use Rattle.fn_plain.specs.Scopes.{bounds_view}
use Rattle.fn_plain.specs.States.{site_at}
use Rattle.fn_plain.proofs.Steps.{gives_as, fails_as}
use Rattle.fn_plain.proofs.form.of_bounds.Goals as goal

pub returns-in-Scan-clause-ok : goal.returns-in-Scan-clause-ok
returns-in-Scan-clause-ok c n =
    let i = c.in-Scan in
    let m = ap (λ (f : Form). after_bounds f (site_at c.args.context.now n) (bounds_view c.args.bounds.items) c.args.limit) (ap form_view i.is ∙ form-Scan i.table i.index i.bounds i.desc i.take) in
    IfOk-weaker c.scan_value.result _ _ (λ r k. gives_as m k) (c.scan_value.ensures.ok n)

pub returns-in-Scan-clause-err : goal.returns-in-Scan-clause-err
returns-in-Scan-clause-err c n =
    let i = c.in-Scan in
    let m = ap (λ (f : Form). after_bounds f (site_at c.args.context.now n) (bounds_view c.args.bounds.items) c.args.limit) (ap form_view i.is ∙ form-Scan i.table i.index i.bounds i.desc i.take) in
    IfErr-weaker c.scan_value.result _ _ (λ e k. fails_as c.args.context.now c.args.progress.now c.scan_value.new.progress e m k) (c.scan_value.ensures.err n)
