use Rattle.std.proofs.Common.{◌≡◌, ◌+◌, ◌-◌, ◌^◌, ◌≤◌, min, length, drop, map, Some}
use Rattle.cv_keys.specs.KeyBytes.{place_key}
use Rattle.cv_values.specs.Trees.{tree}
use Rattle.cv_keys.proofs.ends.each_len.Given as goal

abbrev pub invariant-loop-v : goal.invariant-loop-v
invariant-loop-v l =
    (l.total ≤ 2 ^ 64 - 1) × (min (l.total + length (place_key (map Some (map tree (drop l.v-index l.values))))) (2 ^ 64 - 1) ≡ min (length (place_key (map Some (map tree l.values)))) (2 ^ 64 - 1))
