use Rattle.std.proofs.Common.{◌≡◌, drop, map}
use Rattle.std.specs.Slice.Iter.{iter_rest}
use Rattle.cv_values.specs.Order.{values_cmp, members_cmp}
use Rattle.cv_values.specs.Trees.{tree}
use Rattle.cv_values.specs.Value.{values_of, members_of}
use Rattle.cv_values.proofs.order.+compare.Given as goal

abbrev pub invariant-compare_fields-loop-m : goal.invariant-compare_fields-loop-m
invariant-compare_fields-loop-m l =
    members_cmp (members_of (map (λ e. (e.0, tree e.1)) l.m-iterator)) (members_of (map (λ e. (e.0, tree e.1)) l.others)) ≡ members_cmp (members_of l.a) (members_of l.b)

abbrev pub invariant-compare_values-loop-v : goal.invariant-compare_values-loop-v
invariant-compare_values-loop-v l =
    values_cmp (values_of (map tree (drop l.v-index l.a))) (values_of (map tree (iter_rest l.others))) ≡ values_cmp (values_of (map tree l.a)) (values_of (map tree l.b))
