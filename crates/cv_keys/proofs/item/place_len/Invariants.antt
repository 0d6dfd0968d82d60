use Rattle.std.proofs.Common.{◌≡◌, ◌+◌, ◌-◌, ◌^◌, ◌≤◌, min, length, drop, map}
use Rattle.cv_keys.specs.Documents.{item_at}
use Rattle.cv_keys.specs.KeyBytes.{place_key}
use Rattle.cv_keys.proofs.item.place_len.Given as goal

abbrev pub invariant-loop-field : goal.invariant-loop-field
invariant-loop-field l =
    (l.total ≤ 2 ^ 64 - 1) × (min (l.total + length (place_key (map (item_at l.doc) (drop l.field-index l.index.fields)))) (2 ^ 64 - 1) ≡ min (length (place_key (map (item_at l.doc) l.index.fields))) (2 ^ 64 - 1))
