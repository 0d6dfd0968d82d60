use Rattle.std.proofs.Common.{◌∙◌, ap, sym, List}
use Rattle.fn_check.specs.Copies.{entry_views}
use Rattle.fn_tree.proofs.FormViews.{form-Object}
use Rattle.fn_tree.specs.SyntaxTree as plain
use Rattle.fn_tree.specs.SyntaxViews.{form_view, entries_of}
use Rattle.fn_tree.specs.declared.syntax.Named.{Named}
use Rattle.fn_check.proofs.copy.+expressions.Goals as goal

pub copy_form-returns-in_ok-copy_entries-in-Object :
    goal.copy_form-returns-in_ok-copy_entries-in-Object
copy_form-returns-in_ok-copy_entries-in-Object t c =
    form-Object c.in_ok-copy_entries-in-Object.field-0
    ∙ ap (λ (x : List (Named × plain.Expr)). plain.entries (entries_of x)) (c.in_ok-copy_entries-in-Object.ensures ∙ ap entry_views c.deref-in-Object.ensures.value)
    ∙ sym (form-Object c.in-Object.entries)
    ∙ ap form_view (sym c.in-Object.is)
