use Rattle.std.proofs.Common.{◌≡◌, ◌+◌, ◌-◌, ◌^◌, ◌≤◌, min, length, drop, map}
use Rattle.cv_keys.specs.KeyBytes.{values_key, members_key}
use Rattle.cv_values.specs.Trees.{tree}
use Rattle.cv_values.specs.Value.{values_of, members_of}
use Rattle.cv_keys.proofs.length.+key_len.Given as goal

abbrev pub invariant-fields_len-loop-name : goal.invariant-fields_len-loop-name
invariant-fields_len-loop-name l =
    (l.total ≤ 2 ^ 64 - 1) × (min (l.total + length (members_key (members_of (map (λ e. (e.0, tree e.1)) l.name-iterator)))) (2 ^ 64 - 1) ≡ min (length (members_key (members_of l.fields))) (2 ^ 64 - 1))

abbrev pub invariant-values_len-loop-item : goal.invariant-values_len-loop-item
invariant-values_len-loop-item l =
    (l.total ≤ 2 ^ 64 - 1) × (min (l.total + length (values_key (values_of (map tree (drop l.item-index l.items))))) (2 ^ 64 - 1) ≡ min (length (values_key (values_of (map tree l.items)))) (2 ^ 64 - 1))
