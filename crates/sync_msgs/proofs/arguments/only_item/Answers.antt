use Rattle.std.proofs.Common.{◌≡◌, length, List, [], ◌∷◌, Option, None, Some, option_map, refl, ap, arith, Bor}
use Rattle.std.specs.Option.{option_copied}
use Rattle.std.specs.Prelude.{slice_get}
use Rattle.serde_json.specs.View.{view, items_view}
use Rattle.serde_json.specs.declared.value.Value.{Value as Tree}
use Rattle.sync_msgs.specs.ClientTexts.{only_item}
use Rattle.sync_msgs.proofs.arguments.only_item.Goals as goal

-- of more or fewer items there is no only one
not_one : (xs : List Tree) → (length xs ≡ 1 → ⊥) → None ≡ only_item (items_view xs)
not_one [] h = refl
not_one (x ∷ []) h = absurd (h refl)
not_one (x ∷ y ∷ xs) h = refl

-- the first of one item is the only one
first_of_one : (xs : List Tree) (r : Option (Bor Tree)) → length xs ≡ 1 → option_copied r ≡ slice_get xs 0 → option_map (λ v. view v.now) r ≡ only_item (items_view xs)
first_of_one [] r h e = absurd (omega arith)
first_of_one (x ∷ []) None h e = cc e
first_of_one (x ∷ []) (Some b) h e = ap (option_map view) e
first_of_one (x ∷ y ∷ xs) r h e = absurd (omega arith)

pub returns-then-items-ne1 : goal.returns-then-items-ne1
returns-then-items-ne1 c = not_one c.args.items.now (λ (e : length c.args.items.now ≡ 1). omega arith)

pub returns : goal.returns
returns c = first_of_one c.args.items.now c.first.result c.if-items-ne1.false c.first.ensures.value
