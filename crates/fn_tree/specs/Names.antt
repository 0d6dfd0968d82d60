-- Names: variables, helpers, tables and indexes.
use Rattle.std.specs.Prelude.{ℕ, true, false, cond, List, [], ◌∷◌, take, length, position, Option, Some, None, option_map}
use Rattle.std.specs.Str.{bytes_eq}
use Rattle.cv_values.specs.Value.{Value}
use Rattle.cv_keys.specs.declared.schema.Index.{Index}
use Rattle.cv_keys.specs.declared.schema.Schema.{Schema}
use Rattle.cv_keys.specs.declared.schema.Table.{Table}
use Rattle.fn_tree.specs.Actions.{Scope}
use Rattle.fn_tree.specs.declared.syntax.Named.{Named}

-- what the first of this name has
abbrev pub at_name : {A : Type 0} → List ℕ → List (List ℕ × A) → Option A
at_name n [] = None
at_name n (p ∷ ps) = cond (bytes_eq p.0 n) (Some p.1) (at_name n ps)

-- the variables, where the first of this name has the value
abbrev pub assigned : List ℕ → Value → Scope → Option Scope
assigned n v [] = None
assigned n v (p ∷ ps) = elim (bytes_eq p.0 n) [ true ↦ Some ((p.0, v) ∷ ps) | false ↦ option_map (λ (scope : Scope). p ∷ scope) (assigned n v ps) ]

-- the variables of a block's outside, as the block leaves them
abbrev pub outside : (outer inner : Scope) → Scope
outside outer inner = take (length outer) inner

-- the parameters with their values, as many as there are
abbrev pub bound_to : List Named → List Value → Option Scope
bound_to [] [] = Some []
bound_to [] (v ∷ vs) = None
bound_to (x ∷ xs) [] = None
bound_to (x ∷ xs) (v ∷ vs) = option_map (λ (scope : Scope). (x.text, v) ∷ scope) (bound_to xs vs)

abbrev pub table_number : Schema → List ℕ → Option ℕ
table_number schema n = position (λ (t : Table). bytes_eq t.name n) schema.tables

abbrev pub index_number : Table → List ℕ → Option ℕ
index_number t n = position (λ (i : Index). bytes_eq i.name n) t.indexes
