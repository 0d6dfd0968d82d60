use Rattle.std.proofs.Common.{ap, sym, ◌∙◌}
use Rattle.cv_values.specs.Equality.{pairs_of-members_of}
use Rattle.cv_values.specs.Value.{object, members_of}
use Rattle.fn_ops.specs.Operations.{made}
use Rattle.fn_ops.proofs.Kept.{others}
use Rattle.fn_ops.proofs.Views.{same_faults}
use Rattle.fn_ops.proofs.objects.without.Goals as goal

pub returns-in_ok-copy_without-in-Obj-Str-clause-err : goal.returns-in_ok-copy_without-in-Obj-Str-clause-err
returns-in_ok-copy_without-in-Obj-Str-clause-err c =
    rw (c.in-Obj-Str.is-0, c.in-Obj-Str.is-1)
    (same_faults _ (made (object (members_of c.in_ok-copy_without-in-Obj-Str.field-0))) c.made.result
    (ap (λ l. made (object (members_of (others c.in-Obj-Str.name l)))) (pairs_of-members_of c.in-Obj-Str.fields)
    ∙ ap (λ l. made (object (members_of l))) (sym c.in_ok-copy_without-in-Obj-Str.ensures)) c.made.ensures.err)
