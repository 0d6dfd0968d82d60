use Rattle.std.proofs.Common.{◌≡◌, map, drop}
use Rattle.serde_json.specs.View.{items_view}
use Rattle.sync_msgs.proofs.ReadChanges.{behind}
use Rattle.sync_msgs.specs.ClientTexts.{changes_of}
use Rattle.sync_msgs.specs.MessageViews.{change_view}
use Rattle.sync_msgs.proofs.changes.read_changes.Given as goal

abbrev pub invariant-loop-item : goal.invariant-loop-item
invariant-loop-item l = changes_of (items_view l.items) ≡ behind (map change_view l.changes.items) (changes_of (items_view (drop l.item-index l.items)))
