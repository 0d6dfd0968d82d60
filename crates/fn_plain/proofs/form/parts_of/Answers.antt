use Rattle.std.proofs.Common.{◌∙◌, List, map, refl, sym, ap, subst, arith}
use Rattle.std.specs.Option.{option_map}
use Rattle.fn_tree.proofs.FormViews.{form-Patch, form-Replace, form-Item, form-Binary, form-Object, form-Scan}
use Rattle.fn_tree.specs.SyntaxTree.{Form}
use Rattle.fn_tree.specs.SyntaxViews.{expr_view, bound_view, form_view, entries_of, bounds_of, limit_of}
use Rattle.fn_tree.specs.declared.syntax.BoundExpr.{BoundExpr}
use Rattle.fn_tree.specs.declared.syntax.Expr.{Expr}
use Rattle.fn_tree.specs.declared.syntax.Named.{Named}
use Rattle.fn_plain.specs.Forms.{HasTwo, HasMembers, HasBounds, IsMadeOf}
use Rattle.fn_plain.proofs.form.parts_of.Goals as goal

pub returns-in-Patch : goal.returns-in-Patch
returns-in-Patch c =
    subst (λ (f : Form). HasTwo f (expr_view c.in-Patch.a) (expr_view c.in-Patch.b)) (sym (ap form_view c.in-Patch.is ∙ form-Patch c.in-Patch.a c.in-Patch.b))
    (record { means = λ site scope. refl; falls = omega arith })

pub returns-in-Replace : goal.returns-in-Replace
returns-in-Replace c =
    subst (λ (f : Form). HasTwo f (expr_view c.in-Replace.a) (expr_view c.in-Replace.b)) (sym (ap form_view c.in-Replace.is ∙ form-Replace c.in-Replace.a c.in-Replace.b))
    (record { means = λ site scope. refl; falls = omega arith })

pub returns-in-Item : goal.returns-in-Item
returns-in-Item c =
    subst (λ (f : Form). HasTwo f (expr_view c.in-Item.a) (expr_view c.in-Item.b)) (sym (ap form_view c.in-Item.is ∙ form-Item c.in-Item.a c.in-Item.b))
    (record { means = λ site scope. refl; falls = omega arith })

pub returns-in-Binary : goal.returns-in-Binary
returns-in-Binary c =
    subst (λ (f : Form). IsMadeOf f c.operands.result) (sym (ap form_view c.in-Binary.is ∙ form-Binary c.in-Binary.op c.in-Binary.a c.in-Binary.b)) c.operands.ensures

pub returns-in-Object : goal.returns-in-Object
returns-in-Object c =
    let view = λ (es : List (Named × Expr)). entries_of (map (λ p. (p.0, expr_view p.1)) es) in
    subst (λ es. HasMembers (form_view c.args.form.now) (view es)) (sym c.deref-in-Object.ensures.value)
    (subst (λ (f : Form). HasMembers f (view c.in-Object.entries.items)) (sym (ap form_view c.in-Object.is ∙ form-Object c.in-Object.entries))
    (record { means = λ site scope. refl; falls = omega arith }))

pub returns-in-Scan : goal.returns-in-Scan
returns-in-Scan c =
    let view = λ (bs : List BoundExpr). bounds_of (map bound_view bs) in
    let limit = limit_of (option_map expr_view c.in-Scan.take) in
    subst (λ bs. HasBounds (form_view c.args.form.now) (view bs) limit) (sym c.deref-in-Scan.ensures.value)
    (subst (λ (f : Form). HasBounds f (view c.in-Scan.bounds.items) limit) (sym (ap form_view c.in-Scan.is ∙ form-Scan c.in-Scan.table c.in-Scan.index c.in-Scan.bounds c.in-Scan.desc c.in-Scan.take))
    (record { means = λ site scope. refl; falls = omega arith }))
