use Rattle.std.proofs.Common.{◌≡◌, List, map, Some, None, sym, ap, ◌∙◌, subst}
use Rattle.std.specs.Prelude.{ℕ, Bool, Option, IfOk, IfErr}
use Rattle.std.proofs.lemmas.Result.{IfOk-weaker, IfErr-weaker}
use Rattle.cv_values.specs.Docs.{doc_value}
use Rattle.cv_values.specs.Trees.{tree}
use Rattle.cv_values.specs.Value.{Value, array, values_of}
use Rattle.cv_values.specs.declared.doc.Doc.{Doc}
use Rattle.cv_keys.specs.Places.{PlaceInterval}
use Rattle.fn_ops.specs.Operations.{made}
use Rattle.fn_tree.specs.Actions.{Action, ◌>>=◌, Site, given, or_type_error}
use Rattle.fn_tree.specs.Course.{scan_rows}
use Rattle.fn_tree.specs.Reading.{read, interval_of}
use Rattle.fn_plain.specs.Scans.{StandsFor}
use Rattle.fn_plain.specs.Scopes.{bounds_view}
use Rattle.fn_plain.specs.States.{Gives, Fails, site_at}
use Rattle.fn_plain.proofs.Reading.{passed_on, told-gives, told-fails, stands-some, stands-none, interval-given, interval-refused}
use Rattle.fn_plain.proofs.Steps.{then_gives, then_fails, first_fails}
use Rattle.fn_plain.proofs.read.scan_value.Goals as goal

abbrev shown : List Doc → Action Value
shown ds = given (made (array (values_of (map doc_value ds))))

abbrev scanned : Site → Bool → Option ℕ → PlaceInterval → Action Value
scanned site desc limit i = read site (scan_rows i desc limit) >>= shown

pub returns-in_default-clause-err : goal.returns-in_default-clause-err
returns-in_default-clause-err c n =
    let site = site_at c.args.context.now n in
    let bounds = bounds_view c.args.bounds.items in
    let at = interval_of c.args.context.now.schema.now c.args.table.now c.args.index.now in
    let none : at bounds ≡ None = ap (λ bs. at (bounds_view bs)) (sym c.as_slice.ensures.value) ∙ stands-none _ (subst (λ o. StandsFor (at (bounds_view c.as_slice.result.now)) o) c.in_default.is c.in_ok-i.ensures) in
    first_fails c.args.context.now c.args.progress.now c.args.progress.now (or_type_error (interval_of site.schema c.args.table.now c.args.index.now bounds)) (scanned site c.args.desc c.args.limit) c.failure.result
    (interval-refused c.args.context.now n c.args.progress.now c.args.table.now c.args.index.now bounds c.failure.result none c.failure.ensures)

pub returns-in_err-rows-clause-err : goal.returns-in_err-rows-clause-err
returns-in_err-rows-clause-err c n =
    let site = site_at c.args.context.now n in
    let bounds = bounds_view c.args.bounds.items in
    let at = interval_of c.args.context.now.schema.now c.args.table.now c.args.index.now in
    let there = stands-some _ c.in-Some.i (subst (λ o. StandsFor (at (bounds_view c.as_slice.result.now)) o) c.in-Some.is c.in_ok-i.ensures) in
    let some : at bounds ≡ Some there.0 = ap (λ bs. at (bounds_view bs)) (sym c.as_slice.ensures.value) ∙ there.1 in
    passed_on _ _ _ c.from_residual-in_err-rows.ensures.1
    (then_fails (scanned site c.args.desc c.args.limit) c.read_rows.new.progress _
    (interval-given c.args.context.now n c.args.progress.now c.args.table.now c.args.index.now bounds there.0 c.requires.within some)
    (first_fails c.args.context.now c.args.progress.now c.read_rows.new.progress (read site (scan_rows there.0 c.args.desc c.args.limit)) shown _ (c.in_err-rows.ensures.err n there.0 there.2)))

pub returns-clause-ok : goal.returns-clause-ok
returns-clause-ok c n =
    let site = site_at c.args.context.now n in
    let bounds = bounds_view c.args.bounds.items in
    let new = c.read_rows.new.progress in
    let at = interval_of c.args.context.now.schema.now c.args.table.now c.args.index.now in
    let there = stands-some _ c.in-Some.i (subst (λ o. StandsFor (at (bounds_view c.as_slice.result.now)) o) c.in-Some.is c.in_ok-i.ensures) in
    let some : at bounds ≡ Some there.0 = ap (λ bs. at (bounds_view bs)) (sym c.as_slice.ensures.value) ∙ there.1 in
    let came = c.in_ok-rows.ensures.ok n there.0 there.2 in
    IfOk-weaker c.given.result _ _ (λ w h. then_gives (scanned site c.args.desc c.args.limit)
    (interval-given c.args.context.now n c.args.progress.now c.args.table.now c.args.index.now bounds there.0 c.requires.within some)
    (then_gives shown came h))
    (subst (λ vs. IfOk c.given.result (λ w. Gives c.args.context.now new new (given (made (array (values_of vs)))) (tree w))) (c.in_ok-objects.ensures ∙ ap (map doc_value) c.as_slice-2.ensures.value)
    (told-gives c.args.context.now new c.made.result c.given.result (made (array (values_of c.in_ok-objects.objects))) came.within c.made.ensures.ok c.given.ensures))

pub returns-clause-err : goal.returns-clause-err
returns-clause-err c n =
    let site = site_at c.args.context.now n in
    let bounds = bounds_view c.args.bounds.items in
    let new = c.read_rows.new.progress in
    let at = interval_of c.args.context.now.schema.now c.args.table.now c.args.index.now in
    let there = stands-some _ c.in-Some.i (subst (λ o. StandsFor (at (bounds_view c.as_slice.result.now)) o) c.in-Some.is c.in_ok-i.ensures) in
    let some : at bounds ≡ Some there.0 = ap (λ bs. at (bounds_view bs)) (sym c.as_slice.ensures.value) ∙ there.1 in
    IfErr-weaker c.given.result _ _ (λ f h. then_fails (scanned site c.args.desc c.args.limit) new f
    (interval-given c.args.context.now n c.args.progress.now c.args.table.now c.args.index.now bounds there.0 c.requires.within some)
    (then_fails shown new f (c.in_ok-rows.ensures.ok n there.0 there.2) h))
    (subst (λ vs. IfErr c.given.result (λ f. Fails c.args.context.now new new (given (made (array (values_of vs)))) f)) (c.in_ok-objects.ensures ∙ ap (map doc_value) c.as_slice-2.ensures.value)
    (told-fails c.args.context.now new c.made.result c.given.result (made (array (values_of c.in_ok-objects.objects))) c.made.ensures.err c.given.ensures))
