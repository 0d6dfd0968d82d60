use Rattle.std.proofs.Common.{◌≡◌, Some, ℤ, FitsSigned, to_z, of_z, w64, map, ap, sym, ◌∙◌, rules}
use Rattle.std.proofs.lemmas.Int.{to_z-of_z}
use Rattle.cv_values.specs.Trees.{tree}
use Rattle.fn_ops.specs.Operations.{array_of, part}
use Rattle.fn_ops.proofs.Views.{slice_is, same_faults}
use Rattle.fn_ops.proofs.arrays.slice.Goals as goal

pub returns-in_ok-copy_items-in-Some-clause-err : goal.returns-in_ok-copy_items-in-Some-clause-err
returns-in_ok-copy_items-in-Some-clause-err c =
    let i = c.in-Arr-Int-Int.i in
    let j = c.in-Arr-Int-Int.j in
    let lent = map tree c.in-Some.part.now in
    let i_fits : FitsSigned w64 i = search rules in
    let j_fits : FitsSigned w64 j = search rules in
    let items = c.in-Arr-Int-Int.items in
    let found : Some lent ≡ part items i j =
    c.in-Some.ensures ∙ ap (λ l. part l (to_z w64 (of_z w64 i)) (to_z w64 (of_z w64 j))) c.as_slice.ensures.value
    ∙ ap (λ (z : ℤ). part items z (to_z w64 (of_z w64 j))) (to_z-of_z w64 i i_fits) ∙ ap (λ (z : ℤ). part items i z) (to_z-of_z w64 j j_fits) in
    rw (c.in-Arr-Int-Int.is-0, c.in-Arr-Int-Int.is-1, c.in-Arr-Int-Int.is-2)
    (same_faults _ (array_of c.in_ok-copy_items-in-Some.field-0) c.made.result
    (slice_is items i j lent found ∙ ap array_of (sym c.in_ok-copy_items-in-Some.ensures)) c.made.ensures.err)
