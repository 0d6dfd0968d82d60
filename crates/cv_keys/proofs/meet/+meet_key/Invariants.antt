use Rattle.std.proofs.Common.{◌≡◌, drop, map}
use Rattle.cv_keys.specs.KeyBytes.{values_key, members_key}
use Rattle.cv_keys.specs.Meets.{met}
use Rattle.cv_values.specs.Trees.{tree}
use Rattle.cv_values.specs.Value.{values_of, members_of}
use Rattle.cv_keys.proofs.meet.+meet_key.Given as goal

abbrev pub invariant-meet_fields-loop-name : goal.invariant-meet_fields-loop-name
invariant-meet_fields-loop-name l = met (members_key (members_of (map (λ e. (e.0, tree e.1)) l.name-iterator))) l.rest ≡ met (members_key (members_of l.fields)) l.target

abbrev pub invariant-meet_values-loop-item : goal.invariant-meet_values-loop-item
invariant-meet_values-loop-item l = met (values_key (values_of (map tree (drop l.item-index l.items)))) l.rest ≡ met (values_key (values_of (map tree l.items))) l.target
