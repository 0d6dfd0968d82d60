use Rattle.std.proofs.Common.{◌≡◌, drop, map}
use Rattle.cv_keys.specs.Documents.{item_at}
use Rattle.cv_keys.specs.KeyBytes.{place_key}
use Rattle.cv_keys.specs.Meets.{met}
use Rattle.cv_keys.proofs.item.meet_place.Given as goal

abbrev pub invariant-loop-field : goal.invariant-loop-field
invariant-loop-field l = met (place_key (map (item_at l.doc) (drop l.field-index l.index.fields))) l.rest ≡ met (place_key (map (item_at l.doc) l.index.fields)) l.target
