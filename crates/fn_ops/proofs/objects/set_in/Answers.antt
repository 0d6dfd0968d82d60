use Rattle.std.proofs.Common.{ap, false, sym, ◌∙◌}
use Rattle.cv_values.specs.Docs.{with_member}
use Rattle.cv_values.specs.Equality.{pairs_of-members_of}
use Rattle.cv_values.specs.Sizes.{is_bad_name}
use Rattle.cv_values.specs.Trees.{tree}
use Rattle.cv_values.specs.Value.{object, members_of}
use Rattle.fn_ops.specs.Operations.{made}
use Rattle.fn_ops.proofs.Views.{same_faults}
use Rattle.fn_ops.proofs.objects.set_in.Goals as goal

pub returns-clause-err : goal.returns-clause-err
returns-clause-err c =
    rw (ap (is_bad_name false) (sym c.as_str.ensures) ∙ sym c.is_bad_name.ensures ∙ c.if-is_bad_name.false)
    (same_faults _ (made (object (members_of c.insert.new.self))) c.made.result
    (ap (λ l. made (object (members_of (with_member l c.args.name (tree c.args.v))))) (pairs_of-members_of c.args.fields)
    ∙ ap (λ l. made (object (members_of l))) (sym c.in_ok-insert.ensures.ok)) c.made.ensures.err)
