-- What a place in a module can name.
use Rattle.std.specs.Prelude.{ℕ, Bool, ◌||◌, List, [], ◌∷◌, ◌++◌, Option, nat_eq}
use Rattle.std.specs.BTreeMap.{is_at}
use Rattle.std.specs.BTreeSet.{insert_key}
use Rattle.std.specs.Cmp.Lexicographic.{pointwise}
use Rattle.std.specs.List.{find, list_any}
use Rattle.std.specs.Map.{lookup}
use Rattle.cv_keys.specs.declared.schema.Index.{Index}
use Rattle.cv_keys.specs.declared.schema.Schema.{Schema}
use Rattle.cv_keys.specs.declared.schema.Table.{Table}
use Rattle.cv_values.specs.Order.{text_cmp}
use Rattle.fn_check.specs.declared.scope.Helper.{Helper}

-- names in byte order
abbrev pub Names : Type 0
Names = List (List ℕ)

-- whether the name is one of the names
abbrev pub has_name : Names → List ℕ → Bool
has_name names name = list_any (is_at (text_cmp name)) names

-- the names with one more
abbrev pub with_name : Names → List ℕ → Names
with_name names name = insert_key text_cmp names name

-- the schema, the helpers that are complete, whether a query is checked, and the visible names: those
-- of the block, and those of the blocks around it, the nearest last
pub record Known : Type 0 where
  pub schema : Schema
  pub helpers : List (List ℕ × Helper)
  pub query : Bool
  pub here : Names
  pub outer : List Names

-- whether one of the blocks has the name
abbrev pub any_has : List Names → List ℕ → Bool
any_has blocks name = list_any (λ names. has_name names name) blocks

-- whether a variable of the name is visible
abbrev pub is_visible : Known → List ℕ → Bool
is_visible known name = has_name known.here name || any_has known.outer name

-- with one more name in the block
abbrev pub with_visible : Known → List ℕ → Known
with_visible known name = record known { here = with_name known.here name }

-- in a block of this block
abbrev pub inner : Known → Known
inner known = record known { here = []; outer = known.outer ++ known.here ∷ [] }

-- the complete helper of the name
abbrev pub helper_of : Known → List ℕ → Option Helper
helper_of known name = lookup (is_at (text_cmp name)) known.helpers

-- whether two texts are equal
abbrev pub same_text : List ℕ → List ℕ → Bool
same_text a b = pointwise nat_eq a b

-- the table of the name
abbrev pub table_of : Known → List ℕ → Option Table
table_of known name = find (λ t. same_text t.name name) known.schema.tables

-- the index of the name
abbrev pub index_of : Table → List ℕ → Option Index
index_of table name = find (λ i. same_text i.name name) table.indexes
