use Rattle.std.proofs.Common.{◌<◌, ◌^◌, length, ap, sym, ◌∙◌, arith}
use Rattle.std.proofs.lemmas.List.{length-map}
use Rattle.cv_values.specs.Trees.{tree}
use Rattle.fn_ops.proofs.Views.{length_of_array, length_of_object}
use Rattle.fn_ops.proofs.reads.length.Goals as goal

pub returns-in-Arr-clause-ok : goal.returns-in-Arr-clause-ok
returns-in-Arr-clause-ok c =
    let items = c.as_slice-in-Arr.result.now in
    let small : length items < 2 ^ 63 = omega (arith, c.as_slice-in-Arr.type_inv) in
    rw c.in-Arr.is (length_of_array c.in-Arr.items (length items) (sym (ap length c.as_slice-in-Arr.ensures.value) ∙ length-map items tree) small)

pub returns-in-Obj-clause-ok : goal.returns-in-Obj-clause-ok
returns-in-Obj-clause-ok c =
    rw c.in-Obj.is (length_of_object c.in-Obj.fields c.len.result (sym (ap length c.as_map.ensures.value) ∙ length-map c.as_map.result.now.entries _ ∙ sym c.len.ensures.len) c.len.ensures.small)
