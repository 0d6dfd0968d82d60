use Rattle.std.proofs.Common.{◌∙◌, ◌+◌, sym, ap, refl, subst}
use Rattle.std.specs.Prelude.{None, codes}
use Rattle.cv_values.specs.Ids.{id_text}
use Rattle.cv_values.specs.Trees.{tree}
use Rattle.cv_values.specs.Value.{string}
use Rattle.cv_values.specs.declared.ids.DocId.{DocId}
use Rattle.cv_keys.specs.declared.schema.Schema.{Schema}
use Rattle.fn_tree.specs.Actions.{or_type_error}
use Rattle.fn_tree.specs.Names.{table_number}
use Rattle.fn_tree.specs.Writing.{origin_of, store, insert_value}
use Rattle.fn_plain.specs.States.{Gives, Fails, site_at}
use Rattle.fn_plain.specs.declared.context.Progress.{Progress}
use Rattle.fn_plain.proofs.Changing.{done_with, store_new, insert_fields, insert_in, insert_by}
use Rattle.fn_plain.proofs.Faults.{handed_on}
use Rattle.fn_plain.proofs.Sites.{site_schema}
use Rattle.fn_plain.proofs.Steps.{Reaches, gave_pure, gives_as, fails_by, first_fails, then_gives, then_fails, reached_gives, reached_fails}
use Rattle.fn_plain.proofs.change.insert_value.Goals as goal

-- one more insert has begun
abbrev begun : Progress → Progress
begun p = record p { counts = record (p.counts) { inserts = p.counts.inserts + 1 } }

pub returns-in_err-origin-clause-err : goal.returns-in_err-origin-clause-err
returns-in_err-origin-clause-err c n =
    let x = c.args.context.now in
    let p = c.args.progress.now in
    let s = site_at x n in
    let e = c.in_err-origin.field-0.0 in
    handed_on c.from_residual.result e _ (first_fails x p p (origin_of s) (insert_by s c.args.table.now (tree c.args.v)) e (c.in_err-origin.ensures.err n)) c.from_residual.ensures.1

pub returns-in_default-clause-err : goal.returns-in_default-clause-err
returns-in_default-clause-err c n =
    let x = c.args.context.now in
    let p = c.args.progress.now in
    let s = site_at x n in
    let none = ap (λ (schema : Schema). table_number schema c.args.table.now) (site_schema x n) ∙ sym c.table_number.ensures ∙ c.in_default.is in
    then_fails (insert_by s c.args.table.now (tree c.args.v)) p c.failure.result (c.in_ok-origin.ensures.ok n)
    (first_fails x p p _ (insert_in s (tree c.args.v) c.in_ok-origin.origin) c.failure.result
    (fails_by x p c.failure.result (codes "TypeError") (ap or_type_error none) c.failure.ensures))

pub returns-in_err-store-clause-err : goal.returns-in_err-store-clause-err
returns-in_err-store-clause-err c n =
    let x = c.args.context.now in
    let p = c.args.progress.now in
    let s = site_at x n in
    let e = c.in_err-store.field-0.0 in
    let o = c.in_ok-origin.origin in
    let t = c.in-Some.table in
    let id : DocId = record { table = t; session = o.session; request = o.request; ordinal = p.counts.inserts } in
    let new = c.store.new.progress in
    let found = ap (λ (schema : Schema). table_number schema c.args.table.now) (site_schema x n) ∙ sym c.table_number.ensures ∙ c.in-Some.is in
    let r : Reaches x p (begun p) (insert_fields s o t c.in_ok-fields.fields) (store_new s o t c.in_ok-fields.fields p.counts.inserts) = record { by = λ next. refl } in
    handed_on c.from_residual-in_err-store.result e _
    (then_fails (insert_by s c.args.table.now (tree c.args.v)) new e (c.in_ok-origin.ensures.ok n)
    (then_fails (insert_in s (tree c.args.v) o) new e (gives_as (ap or_type_error found) (gave_pure t c.requires.within))
    (then_fails (insert_fields s o t) new e (gives_as c.in_ok-fields.ensures.ok (gave_pure c.in_ok-fields.fields c.requires.within))
    (reached_fails new e r
    (first_fails x (begun p) new (store s None (record { id = id; creation = o.now; fields = c.in_ok-fields.fields })) (done_with (string (id_text id))) e (subst (λ d. Fails x (begun p) new (store s None d) e) c.new_document-new.ensures (c.in_err-store.ensures.err n)))))))
    c.from_residual-in_err-store.ensures.1

pub returns-clause-ok : goal.returns-clause-ok
returns-clause-ok c n =
    let x = c.args.context.now in
    let p = c.args.progress.now in
    let s = site_at x n in
    let o = c.in_ok-origin.origin in
    let t = c.in-Some.table in
    let id : DocId = record { table = t; session = o.session; request = o.request; ordinal = p.counts.inserts } in
    let found = ap (λ (schema : Schema). table_number schema c.args.table.now) (site_schema x n) ∙ sym c.table_number.ensures ∙ c.in-Some.is in
    let r : Reaches x p (begun p) (insert_fields s o t c.in_ok-fields.fields) (store_new s o t c.in_ok-fields.fields p.counts.inserts) = record { by = λ next. refl } in
    let new = c.store.new.progress in
    let stored : Gives x (begun p) new (store s None (record { id = id; creation = o.now; fields = c.in_ok-fields.fields })) tt = subst (λ d. Gives x (begun p) new (store s None d) tt) c.new_document-new.ensures (c.in_ok-store.ensures.ok n) in
    subst (λ w. Gives x p new (insert_value s c.args.table.now (tree c.args.v)) (string w)) (sym c.in_ok-id_text.ensures)
    (then_gives (insert_by s c.args.table.now (tree c.args.v)) (c.in_ok-origin.ensures.ok n)
    (then_gives (insert_in s (tree c.args.v) o) (gives_as (ap or_type_error found) (gave_pure t c.requires.within))
    (then_gives (insert_fields s o t) (gives_as c.in_ok-fields.ensures.ok (gave_pure c.in_ok-fields.fields c.requires.within))
    (reached_gives r
    (then_gives (done_with (string (id_text id))) stored (gave_pure (string (id_text id)) stored.within))))))
