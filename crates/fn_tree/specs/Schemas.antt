-- The schema of a module's tables.
use Rattle.std.specs.Prelude.{ℕ, List, [], ◌∷◌, ◌++◌, map, codes}
use Rattle.cv_keys.specs.declared.schema.Index.{Index}
use Rattle.cv_keys.specs.declared.schema.Schema.{Schema}
use Rattle.cv_keys.specs.declared.schema.Table.{Table}
use Rattle.fn_tree.specs.SyntaxTree.{IndexTree, TableTree}
use Rattle.fn_tree.specs.declared.syntax.Named.{Named}

-- the last fields of each index but `by_id`
abbrev pub last_fields : List (List ℕ)
last_fields = codes "_creationTime" ∷ codes "_id" ∷ []

-- the index at 0
abbrev pub by_id : Index
by_id = record { name = codes "by_id"; fields = codes "_id" ∷ [] }

-- the index at 1
abbrev pub by_creation_time : Index
by_creation_time = record { name = codes "by_creation_time"; fields = last_fields }

-- what a name says
abbrev pub text_of : Named → List ℕ
text_of n = n.text

-- an index with its own fields before the last ones
abbrev pub declared_index : IndexTree → Index
declared_index i = record { name = i.name.text; fields = map text_of i.fields ++ last_fields }

-- a table with its declared indexes behind the first two
abbrev pub declared_table : TableTree → Table
declared_table t = record { name = t.name.text; indexes = by_id ∷ by_creation_time ∷ map declared_index t.indexes }

-- the tables in order
abbrev pub schema_of : List TableTree → Schema
schema_of ts = record { tables = map declared_table ts }
