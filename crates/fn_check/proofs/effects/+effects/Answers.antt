use Rattle.std.proofs.Common.{rules}
use Rattle.fn_tree.specs.declared.syntax.ExprForm.TheVariants as form
use Rattle.fn_tree.proofs.FormViews.{form-Object}
use Rattle.fn_check.proofs.Views.{viewed}
use Rattle.fn_check.proofs.effects.+effects.Goals as goal

pub expr_does-returns-in-Object : goal.expr_does-returns-in-Object
expr_does-returns-in-Object t c =
    let e = viewed c.args.e.now (form.Object c.in-Object.fields) _ (search rules) (form-Object c.in-Object.fields) in
    rw (e, ← c.deref-in-Object.ensures.value) c.entries_do.ensures
