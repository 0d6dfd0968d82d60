use Rattle.std.proofs.Common.{◌∙◌, ℕ, List, [], false, ap, subst}
use Rattle.std.specs.Prelude.{None, codes}
use Rattle.std.proofs.lemmas.Result.{IfOk-weaker, IfErr-weaker}
use Rattle.cv_values.specs.Trees.{tree}
use Rattle.cv_values.specs.Value.{Value, int}
use Rattle.cv_values.specs.declared.val.Val.{Val}
use Rattle.fn_ops.specs.Operations.{length_of}
use Rattle.fn_tree.proofs.FormViews.{form-Count, form-Now}
use Rattle.fn_tree.specs.Actions.{give, given}
use Rattle.fn_tree.specs.Reading.{scan_value}
use Rattle.fn_tree.specs.SyntaxTree.{Form}
use Rattle.fn_tree.specs.SyntaxViews.{form_view}
use Rattle.fn_tree.specs.Writing.{origin_of}
use Rattle.fn_tree.specs.declared.start.Origin.{Origin}
use Rattle.fn_tree.specs.declared.syntax.CompareOp.{CompareOp}
use Rattle.fn_plain.specs.Forms.{leaf_means}
use Rattle.fn_plain.specs.Scopes.{pairs_view, bounds_view}
use Rattle.fn_plain.specs.States.{Gives, Fails, site_at}
use Rattle.fn_plain.proofs.Faults.{handed_on}
use Rattle.fn_plain.proofs.Steps.{gives_as, fails_as, first_fails, then_gives, then_fails}
use Rattle.fn_plain.proofs.form.leaf_value.Goals as goal

pub returns-in_err-origin_of-in-Now-clause-err : goal.returns-in_err-origin_of-in-Now-clause-err
returns-in_err-origin_of-in-Now-clause-err c n =
    let x = c.args.context.now in
    let p = c.args.progress.now in
    let s = site_at x n in
    let sc = pairs_view c.args.scope.now in
    let e = c.in_err-origin_of-in-Now.field-0.0 in
    let m = ap (λ (f : Form). leaf_means f s sc) (ap form_view c.in-Now.is ∙ form-Now) in
    handed_on c.from_residual-in_err-origin_of-in-Now.result e _
    (fails_as x p p e m (first_fails x p p (origin_of s) (λ (o : Origin). give (int o.now)) e (c.in_err-origin_of-in-Now.ensures.err n)))
    c.from_residual-in_err-origin_of-in-Now.ensures.1

pub returns-in_err-rows-in-Count-clause-err : goal.returns-in_err-rows-in-Count-clause-err
returns-in_err-rows-in-Count-clause-err c n =
    let x = c.args.context.now in
    let p = c.args.progress.now in
    let s = site_at x n in
    let sc = pairs_view c.args.scope.now in
    let t = c.in-Count.table.text in
    let a = scan_value s t (codes "by_creation_time") [] false None in
    let rest = λ (v : Value). given (length_of v) in
    let m = ap (λ (f : Form). leaf_means f s sc) (ap form_view c.in-Count.is ∙ form-Count c.in-Count.table) in
    let new = c.scan_value.new.progress in
    let e = c.in_err-rows-in-Count.field-0.0 in
    let g = subst (λ (bs : List (CompareOp × Val)). Fails x p new (scan_value s t c.in_ok-index-in-Count.index (bounds_view bs) false None) e) c.new-none.ensures.items (c.in_err-rows-in-Count.ensures.err n) in
    let h = subst (λ (i : List ℕ). Fails x p new (scan_value s t i [] false None) e) c.in_ok-index-in-Count.ensures g in
    handed_on c.from_residual-in_err-rows-in-Count.result e _ (fails_as x p new e m (first_fails x p new a rest e h)) c.from_residual-in_err-rows-in-Count.ensures.1

pub returns-in_ok-rows-in-Count-clause-ok : goal.returns-in_ok-rows-in-Count-clause-ok
returns-in_ok-rows-in-Count-clause-ok c n =
    let x = c.args.context.now in
    let p = c.args.progress.now in
    let s = site_at x n in
    let sc = pairs_view c.args.scope.now in
    let t = c.in-Count.table.text in
    let a = scan_value s t (codes "by_creation_time") [] false None in
    let rest = λ (v : Value). given (length_of v) in
    let m = ap (λ (f : Form). leaf_means f s sc) (ap form_view c.in-Count.is ∙ form-Count c.in-Count.table) in
    let new = c.scan_value.new.progress in
    let v = tree c.in_ok-rows-in-Count.rows in
    let g = subst (λ (bs : List (CompareOp × Val)). Gives x p new (scan_value s t c.in_ok-index-in-Count.index (bounds_view bs) false None) v) c.new-none.ensures.items (c.in_ok-rows-in-Count.ensures.ok n) in
    let rows = subst (λ (i : List ℕ). Gives x p new (scan_value s t i [] false None) v) c.in_ok-index-in-Count.ensures g in
    IfOk-weaker c.count_of.result _ _ (λ r k. gives_as m (then_gives rest rows k)) c.count_of.ensures.ok

pub returns-in_ok-rows-in-Count-clause-err : goal.returns-in_ok-rows-in-Count-clause-err
returns-in_ok-rows-in-Count-clause-err c n =
    let x = c.args.context.now in
    let p = c.args.progress.now in
    let s = site_at x n in
    let sc = pairs_view c.args.scope.now in
    let t = c.in-Count.table.text in
    let a = scan_value s t (codes "by_creation_time") [] false None in
    let rest = λ (v : Value). given (length_of v) in
    let m = ap (λ (f : Form). leaf_means f s sc) (ap form_view c.in-Count.is ∙ form-Count c.in-Count.table) in
    let new = c.scan_value.new.progress in
    let v = tree c.in_ok-rows-in-Count.rows in
    let g = subst (λ (bs : List (CompareOp × Val)). Gives x p new (scan_value s t c.in_ok-index-in-Count.index (bounds_view bs) false None) v) c.new-none.ensures.items (c.in_ok-rows-in-Count.ensures.ok n) in
    let rows = subst (λ (i : List ℕ). Gives x p new (scan_value s t i [] false None) v) c.in_ok-index-in-Count.ensures g in
    IfErr-weaker c.count_of.result _ _ (λ e k. fails_as x p new e m (then_fails rest new e rows k)) c.count_of.ensures.err

pub count_of-requires : goal.count_of-requires
count_of-requires c = record { within = (c.in_ok-rows-in-Count.ensures.ok 0).within }
