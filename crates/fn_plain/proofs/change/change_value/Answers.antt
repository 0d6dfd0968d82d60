use Rattle.std.proofs.Common.{◌∙◌, ap, subst}
use Rattle.std.specs.Prelude.{Some}
use Rattle.cv_values.specs.declared.doc.Doc.{Doc}
use Rattle.cv_values.specs.declared.ids.DocId.{DocId}
use Rattle.cv_values.specs.Trees.{tree}
use Rattle.cv_values.specs.Value.{null}
use Rattle.fn_tree.specs.Actions.{as_fields}
use Rattle.fn_tree.specs.Reading.{as_id}
use Rattle.fn_tree.specs.Writing.{origin_of, doc_there, store}
use Rattle.fn_plain.specs.Changes.{changed}
use Rattle.fn_plain.specs.States.{Gives, Fails, site_at}
use Rattle.fn_plain.proofs.Changing.{Fields, within_more, done_with, store_changed, change_there, change_fields, change_id}
use Rattle.fn_plain.proofs.Faults.{handed_on}
use Rattle.fn_plain.proofs.Steps.{gave_pure, gives_as, refused, first_fails, then_gives, then_fails}
use Rattle.fn_plain.proofs.change.change_value.Goals as goal

abbrev with_fields : DocId → Doc → Fields → Doc
with_fields id old fields = record { id = id; creation = old.creation; fields = fields }

pub returns-in_err-origin_of-clause-err : goal.returns-in_err-origin_of-clause-err
returns-in_err-origin_of-clause-err c n =
    let x = c.args.context.now in
    let p = c.args.progress.now in
    let s = site_at x n in
    let e = c.in_err-origin_of.field-0.0 in
    handed_on c.from_residual.result e _ (first_fails x p p (origin_of s) (change_id s (changed c.args.change) (tree c.args.v.now) (tree c.args.w)) e (c.in_err-origin_of.ensures.err n)) c.from_residual.ensures.1

pub returns-in_err-id-clause-err : goal.returns-in_err-id-clause-err
returns-in_err-id-clause-err c n =
    let x = c.args.context.now in
    let p = c.args.progress.now in
    let s = site_at x n in
    let e = c.in_err-id.field-0.0 in
    let f = changed c.args.change in
    handed_on c.from_residual-in_err-id.result e _
    (then_fails (change_id s f (tree c.args.v.now) (tree c.args.w)) p e (c.in_ok-origin_of.ensures.ok n)
    (first_fails x p p (as_id s (tree c.args.v.now)) (change_fields s f (tree c.args.w)) e (c.in_err-id.ensures.err n)))
    c.from_residual-in_err-id.ensures.1

pub returns-in_err-fields-clause-err : goal.returns-in_err-fields-clause-err
returns-in_err-fields-clause-err c n =
    let x = c.args.context.now in
    let p = c.args.progress.now in
    let s = site_at x n in
    let e = c.in_err-fields.field-0.0 in
    let f = changed c.args.change in
    handed_on c.from_residual-in_err-fields.result e _
    (then_fails (change_id s f (tree c.args.v.now) (tree c.args.w)) p e (c.in_ok-origin_of.ensures.ok n)
    (then_fails (change_fields s f (tree c.args.w)) p e (c.in_ok-id.ensures.ok n)
    (first_fails x p p (as_fields (tree c.args.w)) (change_there s f c.in_ok-id.id) e (refused x p e c.in_err-fields.ensures.err))))
    c.from_residual-in_err-fields.ensures.1

pub returns-in_err-old-clause-err : goal.returns-in_err-old-clause-err
returns-in_err-old-clause-err c n =
    let x = c.args.context.now in
    let p = c.args.progress.now in
    let s = site_at x n in
    let e = c.in_err-old.field-0.0 in
    let f = changed c.args.change in
    let new = c.doc_there.new.progress in
    handed_on c.from_residual-in_err-old.result e _
    (then_fails (change_id s f (tree c.args.v.now) (tree c.args.w)) new e (c.in_ok-origin_of.ensures.ok n)
    (then_fails (change_fields s f (tree c.args.w)) new e (c.in_ok-id.ensures.ok n)
    (then_fails (change_there s f c.in_ok-id.id) new e (gives_as c.in_ok-fields.ensures.ok (gave_pure c.in_ok-fields.fields c.requires.within))
    (first_fails x p new (doc_there s c.in_ok-id.id) (store_changed s f c.in_ok-id.id c.in_ok-fields.fields) e (c.in_err-old.ensures.err n)))))
    c.from_residual-in_err-old.ensures.1

pub store-requires : goal.store-requires
store-requires c = record { within = within_more (c.in_ok-old.ensures.ok 0).within }

pub returns-in_err-store-clause-err : goal.returns-in_err-store-clause-err
returns-in_err-store-clause-err c n =
    let x = c.args.context.now in
    let p = c.args.progress.now in
    let s = site_at x n in
    let e = c.in_err-store.field-0.0 in
    let f = changed c.args.change in
    let mid = c.doc_there.new.progress in
    let new = c.store.new.progress in
    let made = λ (fields : Fields). with_fields c.in_ok-id.id c.in_ok-old.old fields in
    handed_on c.from_residual-in_err-store.result e _
    (then_fails (change_id s f (tree c.args.v.now) (tree c.args.w)) new e (c.in_ok-origin_of.ensures.ok n)
    (then_fails (change_fields s f (tree c.args.w)) new e (c.in_ok-id.ensures.ok n)
    (then_fails (change_there s f c.in_ok-id.id) new e (gives_as c.in_ok-fields.ensures.ok (gave_pure c.in_ok-fields.fields c.requires.within))
    (then_fails (store_changed s f c.in_ok-id.id c.in_ok-fields.fields) new e (c.in_ok-old.ensures.ok n)
    (first_fails x mid new (store s (Some c.in_ok-old.old) (made (f c.in_ok-fields.fields c.in_ok-old.old.fields))) (done_with null) e
    (subst (λ d. Fails x mid new (store s (Some c.in_ok-old.old) d) e) (c.changed_document-new.ensures ∙ ap made c.in_ok-fields-2.ensures) (c.in_err-store.ensures.err n)))))))
    c.from_residual-in_err-store.ensures.1

pub returns-clause-ok : goal.returns-clause-ok
returns-clause-ok c n =
    let s = site_at c.args.context.now n in
    let f = changed c.args.change in
    let x = c.args.context.now in
    let mid = c.doc_there.new.progress in
    let new = c.store.new.progress in
    let made = λ (fields : Fields). with_fields c.in_ok-id.id c.in_ok-old.old fields in
    let stored = subst (λ d. Gives x mid new (store s (Some c.in_ok-old.old) d) tt) (c.changed_document-new.ensures ∙ ap made c.in_ok-fields-2.ensures) (c.in_ok-store.ensures.ok n) in
    then_gives (change_id s f (tree c.args.v.now) (tree c.args.w)) (c.in_ok-origin_of.ensures.ok n)
    (then_gives (change_fields s f (tree c.args.w)) (c.in_ok-id.ensures.ok n)
    (then_gives (change_there s f c.in_ok-id.id) (gives_as c.in_ok-fields.ensures.ok (gave_pure c.in_ok-fields.fields c.requires.within))
    (then_gives (store_changed s f c.in_ok-id.id c.in_ok-fields.fields) (c.in_ok-old.ensures.ok n)
    (then_gives (done_with null) stored (gave_pure null stored.within)))))
