use Rattle.std.proofs.Common.{◌≡◌, ◌++◌, drop, map}
use Rattle.cv_keys.specs.KeyBytes.{values_key, members_key}
use Rattle.cv_keys.specs.KeyOrder.{AreInRange, MembersInRange}
use Rattle.cv_values.specs.Trees.{tree}
use Rattle.cv_values.specs.Value.{values_of, members_of}
use Rattle.cv_keys.proofs.encode.+put_key.Given as goal

abbrev pub invariant-put_fields-loop-name : goal.invariant-put_fields-loop-name
invariant-put_fields-loop-name l =
    (l.out.items ++ members_key (members_of (map (λ e. (e.0, tree e.1)) l.name-iterator)) ≡ l.initial.out.items ++ members_key (members_of l.fields))
    × (MembersInRange (members_of (map (λ e. (e.0, tree e.1)) l.name-iterator)) → MembersInRange (members_of l.fields))

abbrev pub invariant-put_values-loop-item : goal.invariant-put_values-loop-item
invariant-put_values-loop-item l =
    (l.out.items ++ values_key (values_of (map tree (drop l.item-index l.items))) ≡ l.initial.out.items ++ values_key (values_of (map tree l.items)))
    × (AreInRange (values_of (map tree (drop l.item-index l.items))) → AreInRange (values_of (map tree l.items)))
