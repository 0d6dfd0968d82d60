use Rattle.std.proofs.Common.{◌≡◌, map, take, ap, ◌∙◌, arith}
use Rattle.std.proofs.lemmas.List.{take_all}
use Rattle.serde_json.specs.View.{items_of}
use Rattle.sync_msgs.specs.MessageViews.{shown_view}
use Rattle.sync_msgs.specs.ServerTexts.{shown_tree}
use Rattle.sync_msgs.proofs.encoder.shown_items.Goals as goal

pub returns : goal.returns
returns c =
    let whole : take c.loop-shown.shown-index c.args.changes.now ≡ c.args.changes.now = take_all _ _ (omega arith) in
    ap items_of (c.loop-shown.invariant ∙ ap (λ ss. map shown_tree (map shown_view ss)) whole)
