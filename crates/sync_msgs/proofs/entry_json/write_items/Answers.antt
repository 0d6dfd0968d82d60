use Rattle.std.proofs.Common.{◌≡◌, map, take, ap, ◌∙◌, arith}
use Rattle.std.proofs.lemmas.List.{take_all}
use Rattle.serde_json.specs.View.{items_of}
use Rattle.sync_msgs.specs.EntryTexts.{write_tree}
use Rattle.sync_msgs.proofs.entry_json.write_items.Goals as goal

pub returns : goal.returns
returns c =
    let whole : take c.loop-write.write-index c.args.writes.now ≡ c.args.writes.now = take_all _ _ (omega arith) in
    ap items_of (c.loop-write.invariant ∙ ap (λ ws. map write_tree ws) whole)
