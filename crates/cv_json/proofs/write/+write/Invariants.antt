use Rattle.std.proofs.Common.{◌≡◌, map, take, drop}
use Rattle.cv_json.proofs.Written.{WrittenSoFar}
use Rattle.cv_json.specs.Json.{json_of}
use Rattle.cv_json.specs.Ranges.{ValuesInRange}
use Rattle.cv_values.specs.Trees.{tree}
use Rattle.cv_values.specs.Value.{values_of}
use Rattle.serde_json.specs.View.{view}
use Rattle.cv_json.proofs.write.+write.Given as goal

abbrev pub invariant-write_fields-loop-name : goal.invariant-write_fields-loop-name
invariant-write_fields-loop-name l = WrittenSoFar l.fields (map (λ e. (e.0, tree e.1)) l.name-iterator) l.trees.entries

abbrev pub invariant-write_values-loop-item : goal.invariant-write_values-loop-item
invariant-write_values-loop-item l =
    (map view l.trees.items ≡ map json_of (map tree (take l.item-index l.items)))
    × (ValuesInRange (values_of (map tree (drop l.item-index l.items))) → ValuesInRange (values_of (map tree l.items)))
