-- What the code holds of an item.
use Rattle.std.specs.Prelude.{Some, None}
use Rattle.cv_values.specs.Ids.{id_text}
use Rattle.cv_values.specs.Trees.{tree}
use Rattle.cv_values.specs.Value.{int, string}
use Rattle.cv_keys.specs.Places.{Item as Plain}
use Rattle.cv_keys.specs.declared.item.Item.{Item}
use Rattle.cv_keys.specs.declared.item.Item.TheVariants.{Missing, Id, Creation, Field}

-- the item that it stands for
abbrev pub shown : Item → Plain
shown Missing = None
shown (Id id) = Some (string (id_text id))
shown (Creation n) = Some (int n)
shown (Field v) = Some (tree v.now)
