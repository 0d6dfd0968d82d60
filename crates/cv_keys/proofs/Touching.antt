-- Touch by keys is touch by places.
use Rattle.std.proofs.Common.{◌≡◌, ◌&&◌, ◌||◌, ◌==◌, Option, Some, None, refl, ap, sym, ◌∙◌}
use Rattle.cv_values.specs.declared.doc.Doc.{Doc}
use Rattle.cv_keys.specs.Documents.{index_at, place}
use Rattle.cv_keys.specs.Intervals.{in_bytes}
use Rattle.cv_keys.specs.KeyOrder.{EndInRange}
use Rattle.cv_keys.specs.Places.{PlaceInterval}
use Rattle.cv_keys.specs.Touch.{is_in, has_key_in, DocInRange, TouchGoesByKeys}
use Rattle.cv_keys.specs.declared.schema.Index.{Index}
use Rattle.cv_keys.proofs.ItemCmp.{intervals_hold_by_keys}

in_by_key : (index : Option Index) (i : PlaceInterval) (d : Option Doc) → DocInRange index d → EndInRange i.lo → EndInRange i.hi → has_key_in index (in_bytes i) d ≡ is_in index i d
in_by_key None i d h lo hi = refl
in_by_key (Some index) i None h lo hi = refl
in_by_key (Some index) i (Some d) h lo hi = sym (intervals_hold_by_keys (place d index) i h lo hi)

pub touch_goes_by_keys : TouchGoesByKeys
touch_goes_by_keys schema w i old new lo hi =
    let index = index_at schema i.table i.index in
    ap (λ b. (w.id.table == i.table) && (b || has_key_in index (in_bytes i) w.new)) (in_by_key index i w.old old lo hi)
    ∙ ap (λ b. (w.id.table == i.table) && (is_in index i w.old || b)) (in_by_key index i w.new new lo hi)
