use Rattle.std.proofs.Common.{◌≡◌, map, take}
use Rattle.serde_json.specs.View.{view}
use Rattle.sync_msgs.specs.MessageViews.{shown_view}
use Rattle.sync_msgs.specs.ServerTexts.{shown_tree}
use Rattle.sync_msgs.proofs.encoder.shown_items.Given as goal

abbrev pub invariant-loop-shown : goal.invariant-loop-shown
invariant-loop-shown l = map view l.trees.items ≡ map shown_tree (map shown_view (take l.shown-index l.changes))
