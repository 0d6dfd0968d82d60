use Rattle.std.proofs.Common.{◌≡◌, ◌+◌, ◌<◌, ◌∷◌, [], ◌++◌, length, map, drop, arith, ap, sym, ◌∙◌, Ok}
use Rattle.std.proofs.lemmas.List.{drop_all, map-append}
use Rattle.serde_json.specs.View.{items_view}
use Rattle.sync_msgs.proofs.ReadChanges.{behind, change_step, change_fault}
use Rattle.sync_msgs.specs.ClientTexts.{changes_of}
use Rattle.sync_msgs.specs.MessageViews.{change_view}
use Rattle.sync_msgs.proofs.changes.read_changes.Goals as goal

pub loop-item-preserved : goal.loop-item-preserved
loop-item-preserved c =
    let xs = c.args.items.now in
    let i = c.loop-item.item-index in
    let before = c.loop-item.changes.items in
    let next = c.in_ok-read_change.field-0 in
    let within : i < length xs = omega arith in
    let grown : map change_view c.push.new.self.items ≡ map change_view before ++ change_view next ∷ [] = ap (λ cs. map change_view cs) c.in_ok-push.ensures.items ∙ map-append change_view before (next ∷ []) in
    c.loop-item.invariant
    ∙ change_step xs i c.item-item.result (change_view next) (map change_view before) within c.item-item.is c.in_ok-read_change.ensures.ok
    ∙ ap (λ cs. behind cs (changes_of (items_view (drop (i + 1) xs)))) (sym grown)
