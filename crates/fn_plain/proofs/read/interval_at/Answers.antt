use Rattle.std.proofs.Common.{◌<◌, length, refl, sym, ap, ◌∙◌, subst}
use Rattle.std.specs.Prelude.{slice_get}
use Rattle.std.proofs.lemmas.Option.{slice_get_read}
use Rattle.fn_plain.specs.Scopes.{bounds_view}
use Rattle.fn_plain.proofs.Reading.{interval-there}
use Rattle.fn_plain.proofs.read.interval_at.Goals as goal

pub returns : goal.returns
returns c =
    let there = c.in-Some-get.ensures.lookup in
    interval-there c.args.schema.now c.args.table.now c.args.index.now (bounds_view c.args.bounds.now) c.in-Some.at c.in-Some-index_number.number c.in-Some-get.found.now c.bounded.result
    c.in-Some.ensures (sym (slice_get_read c.as_slice.result.now (length c.as_slice.result.now) c.in-Some.at c.in-Some-get.found.now refl there.3.0 there.1) ∙ ap (λ ts. slice_get ts c.in-Some.at) c.as_slice.ensures) c.in-Some-index_number.ensures
    (subst (λ l. c.in-Some-index_number.number < length l) c.as_slice-2.ensures c.if-number-as_slice.false) c.bounded.ensures
