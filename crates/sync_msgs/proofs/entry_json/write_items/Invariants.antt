use Rattle.std.proofs.Common.{◌≡◌, map, take}
use Rattle.serde_json.specs.View.{view}
use Rattle.sync_msgs.specs.EntryTexts.{write_tree}
use Rattle.sync_msgs.proofs.entry_json.write_items.Given as goal

abbrev pub invariant-loop-write : goal.invariant-loop-write
invariant-loop-write l = map view l.trees.items ≡ map write_tree (take l.write-index l.writes)
