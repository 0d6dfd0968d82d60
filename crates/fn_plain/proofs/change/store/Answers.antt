use Rattle.std.proofs.Common.{◌≡◌, ◌∙◌, true, sym, ap}
use Rattle.std.specs.Prelude.{Option, Some, Ok}
use Rattle.std.proofs.lemmas.Result.{IfOk-weaker, IfErr-weaker}
use Rattle.cv_values.specs.Sizes.{checked}
use Rattle.cv_values.specs.Value.{object, members_of}
use Rattle.cv_values.specs.declared.doc.Doc.{Doc}
use Rattle.fn_tree.specs.Actions.{Action, ◌>>◌, Site}
use Rattle.fn_tree.specs.Scan.{doc_size}
use Rattle.fn_tree.specs.Writing.{write, store, unless_faulty}
use Rattle.fn_tree.specs.declared.stop.Put.{Put}
use Rattle.fn_plain.specs.States.{site_at}
use Rattle.fn_plain.proofs.Steps.{gives_as, fails_as}
use Rattle.fn_plain.proofs.change.store.Goals as goal

abbrev stored : Option Doc → Doc → Put
stored old new = record { id = new.id; old = old; new = Some new }

store_is : (site : Site) (old : Option Doc) (new : Doc) → checked true (object (members_of new.fields)) ≡ Ok tt → store site old new ≡ write site (doc_size new) (stored old new)
store_is site old new e = ap (λ (m : Action (Unit {0})). m >> write site (doc_size new) (stored old new)) (ap unless_faulty e)

pub returns-clause-ok : goal.returns-clause-ok
returns-clause-ok c n =
    let s = site_at c.args.context.now n in
    let e = store_is s c.args.old c.args.new (sym c.check_fields.ensures ∙ c.in_default.is) in
    IfOk-weaker c.write.result _ _ (λ u h. gives_as e h) (c.write.ensures.ok n (doc_size c.args.new) c.in_ok-size.ensures)

pub returns-clause-err : goal.returns-clause-err
returns-clause-err c n =
    let s = site_at c.args.context.now n in
    let e = store_is s c.args.old c.args.new (sym c.check_fields.ensures ∙ c.in_default.is) in
    IfErr-weaker c.write.result _ _ (λ f h. fails_as c.args.context.now c.args.progress.now c.write.new.progress f e h) (c.write.ensures.err n (doc_size c.args.new) c.in_ok-size.ensures)
