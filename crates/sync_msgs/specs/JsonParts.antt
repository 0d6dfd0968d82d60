-- Parts of JSON trees.
use Rattle.std.specs.Prelude.{ℕ, List, [], ◌∷◌}
use Rattle.serde_json.specs.Data as json
use Rattle.serde_json.specs.Data.{Data, Members, unsigned}

-- the members of these names, which stand in byte order
abbrev pub members : List (List ℕ × Data) → Members
members [] = json.no_members
members (p ∷ ps) = json.member p.0 p.1 (members ps)

abbrev pub object_with : List (List ℕ × Data) → Data
object_with ps = json.object (members ps)

abbrev pub number_tree : ℕ → Data
number_tree n = json.number (unsigned n)
