use Rattle.std.proofs.Common.{Some, None, sym, ap, ◌∙◌, subst}
use Rattle.std.specs.Prelude.{codes}
use Rattle.cv_values.specs.declared.ids.DocId.{DocId}
use Rattle.fn_tree.specs.Actions.{Action}
use Rattle.fn_tree.specs.Reading.{id_in}
use Rattle.fn_plain.specs.States.{Gives, Fails}
use Rattle.fn_plain.proofs.Reading.{id-is}
use Rattle.fn_plain.proofs.Steps.{gave_pure, fail_fails}
use Rattle.fn_plain.proofs.read.as_id.Goals as goal

pub returns-in-Some-clause-ok : goal.returns-in-Some-clause-ok
returns-in-Some-clause-ok c n =
    let schema = c.args.context.now.schema.now in
    subst (λ (action : Action DocId). Gives c.args.context.now c.args.progress.now c.args.progress.now action c.in-Some.id)
    (id-is c.args.context.now n c.args.v.now c.in-Str.text (Some c.in-Some.id) c.in-Str.is (sym c.in-Some.is ∙ c.id_in.ensures ∙ ap (id_in schema) c.read_id.ensures))
    (gave_pure c.in-Some.id c.requires.within)

pub returns-in-None-clause-err : goal.returns-in-None-clause-err
returns-in-None-clause-err c n =
    let schema = c.args.context.now.schema.now in
    subst (λ (action : Action DocId). Fails c.args.context.now c.args.progress.now c.args.progress.now action c.failure-in-None.result)
    (id-is c.args.context.now n c.args.v.now c.in-Str.text None c.in-Str.is (sym c.in-None.is ∙ c.id_in.ensures ∙ ap (id_in schema) c.read_id.ensures))
    (fail_fails DocId c.args.context.now c.args.progress.now c.failure-in-None.result (codes "BadId") c.failure-in-None.ensures)
