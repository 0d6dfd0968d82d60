use Rattle.std.proofs.Common.{◌≡◌, drop, map, fold}
use Rattle.cv_values.specs.Hashes.{values_fed, members_fed}
use Rattle.cv_values.specs.Trees.{tree}
use Rattle.cv_values.specs.Value.{values_of, members_of}
use Rattle.cv_values.proofs.equal.+feed.Given as goal

abbrev pub invariant-feed_fields-loop-name : goal.invariant-feed_fields-loop-name
invariant-feed_fields-loop-name g l =
    let write = g.H.Hasher.write in
    fold write l.state (members_fed (members_of (map (λ e. (e.0, tree e.1)) l.name-iterator))) ≡ fold write l.initial.state (members_fed (members_of l.fields))

abbrev pub invariant-feed_values-loop-item : goal.invariant-feed_values-loop-item
invariant-feed_values-loop-item g l =
    let write = g.H.Hasher.write in
    fold write l.state (values_fed (values_of (map tree (drop l.item-index l.items)))) ≡ fold write l.initial.state (values_fed (values_of (map tree l.items)))
