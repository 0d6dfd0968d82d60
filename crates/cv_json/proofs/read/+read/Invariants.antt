use Rattle.std.proofs.Common.{◌≡◌, ◌++◌, List, map, drop}
use Rattle.std.specs.Map.{keys_of}
use Rattle.std.specs.String.{string_bytes}
use Rattle.cv_json.proofs.Steps.{on_ok}
use Rattle.cv_json.specs.Reads.{read_items, read_members}
use Rattle.cv_json.proofs.Built.{after_values, after_members, Entry}
use Rattle.serde_json.specs.View.{items_view, members_view}
use Rattle.cv_json.proofs.read.+read.Given as goal

abbrev pub invariant-read_items-loop-item : goal.invariant-read_items-loop-item
invariant-read_items-loop-item l =
    read_items l.depth (items_view l.items) ≡ on_ok (after_values l.values) (read_items l.depth (items_view (drop l.item-index l.items)))

abbrev pub invariant-read_members-loop-name : goal.invariant-read_members-loop-name
invariant-read_members-loop-name l =
    (done : List Entry) × (l.members.entries ≡ done ++ l.name-iterator) × (keys_of l.fields ≡ map (λ e. string_bytes e.0) done)
    × (read_members l.depth (members_view l.members.entries) ≡ on_ok (after_members l.fields) (read_members l.depth (members_view l.name-iterator)))
