use Rattle.std.proofs.Common.{◌≡◌, ◌++◌, drop, map, Some}
use Rattle.cv_keys.specs.KeyBytes.{place_key}
use Rattle.cv_keys.specs.KeyOrder.{PlaceInRange}
use Rattle.cv_values.specs.Trees.{tree}
use Rattle.cv_keys.proofs.ends.put_each.Given as goal

abbrev pub invariant-loop-v : goal.invariant-loop-v
invariant-loop-v l =
    (l.out.items ++ place_key (map Some (map tree (drop l.v-index l.values))) ≡ l.initial.out.items ++ place_key (map Some (map tree l.values)))
    × (PlaceInRange (map Some (map tree (drop l.v-index l.values))) → PlaceInRange (map Some (map tree l.values)))
