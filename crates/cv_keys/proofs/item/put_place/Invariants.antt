use Rattle.std.proofs.Common.{◌≡◌, ◌++◌, drop, map}
use Rattle.cv_keys.specs.Documents.{item_at}
use Rattle.cv_keys.specs.KeyBytes.{place_key}
use Rattle.cv_keys.specs.KeyOrder.{PlaceInRange}
use Rattle.cv_keys.proofs.item.put_place.Given as goal

abbrev pub invariant-loop-field : goal.invariant-loop-field
invariant-loop-field l =
    (l.out.items ++ place_key (map (item_at l.doc) (drop l.field-index l.index.fields)) ≡ l.initial.out.items ++ place_key (map (item_at l.doc) l.index.fields))
    × (PlaceInRange (map (item_at l.doc) (drop l.field-index l.index.fields)) → PlaceInRange (map (item_at l.doc) l.index.fields))
