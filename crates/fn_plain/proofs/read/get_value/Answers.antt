use Rattle.std.proofs.Common.{Option, subst}
use Rattle.std.specs.Prelude.{IfOk, IfErr}
use Rattle.std.proofs.lemmas.Result.{IfOk-weaker, IfErr-weaker}
use Rattle.cv_values.specs.Trees.{tree}
use Rattle.cv_values.specs.Value.{Value}
use Rattle.cv_values.specs.declared.doc.Doc.{Doc}
use Rattle.cv_values.specs.declared.ids.DocId.{DocId}
use Rattle.fn_ops.specs.Operations.{made}
use Rattle.fn_tree.specs.Actions.{Action, ◌>>=◌, Site, given}
use Rattle.fn_tree.specs.Reading.{as_id, doc_at, doc_or_null}
use Rattle.fn_plain.specs.States.{Gives, Fails, site_at}
use Rattle.fn_plain.proofs.Reading.{passed_on, told-gives, told-fails}
use Rattle.fn_plain.proofs.Steps.{then_gives, then_fails, first_fails}
use Rattle.fn_plain.proofs.read.get_value.Goals as goal

abbrev shown : Option Doc → Action Value
shown d = given (made (doc_or_null d))

abbrev after_id : Site → DocId → Action Value
after_id site id = doc_at site id >>= shown

pub returns-in_err-id-clause-err : goal.returns-in_err-id-clause-err
returns-in_err-id-clause-err c n =
    let site = site_at c.args.context.now n in
    passed_on _ _ _ c.from_residual.ensures.1
    (first_fails c.args.context.now c.args.progress.now c.args.progress.now (as_id site (tree c.args.v.now)) (after_id site) _ (c.in_err-id.ensures.err n))

pub returns-in_err-doc-clause-err : goal.returns-in_err-doc-clause-err
returns-in_err-doc-clause-err c n =
    let site = site_at c.args.context.now n in
    passed_on _ _ _ c.from_residual-in_err-doc.ensures.1
    (then_fails (after_id site) c.doc_at.new.progress _ (c.in_ok-id.ensures.ok n)
    (first_fails c.args.context.now c.args.progress.now c.doc_at.new.progress (doc_at site c.in_ok-id.id) shown _ (c.in_err-doc.ensures.err n)))

pub returns-clause-ok : goal.returns-clause-ok
returns-clause-ok c n =
    let site = site_at c.args.context.now n in
    let new = c.doc_at.new.progress in
    let there = c.in_ok-doc.ensures.ok n in
    IfOk-weaker c.given.result _ _ (λ w h. then_gives (after_id site) (c.in_ok-id.ensures.ok n) (then_gives shown there h))
    (subst (λ v. IfOk c.given.result (λ w. Gives c.args.context.now new new (given (made v)) (tree w))) c.in_ok-found.ensures
    (told-gives c.args.context.now new c.made.result c.given.result (made (tree c.in_ok-found.found)) there.within c.made.ensures.ok c.given.ensures))

pub returns-clause-err : goal.returns-clause-err
returns-clause-err c n =
    let site = site_at c.args.context.now n in
    let new = c.doc_at.new.progress in
    IfErr-weaker c.given.result _ _ (λ f h. then_fails (after_id site) new f (c.in_ok-id.ensures.ok n) (then_fails shown new f (c.in_ok-doc.ensures.ok n) h))
    (subst (λ v. IfErr c.given.result (λ f. Fails c.args.context.now new new (given (made v)) f)) c.in_ok-found.ensures
    (told-fails c.args.context.now new c.made.result c.given.result (made (tree c.in_ok-found.found)) c.made.ensures.err c.given.ensures))
