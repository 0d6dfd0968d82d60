-- The first fault of the tables.
use Rattle.std.specs.Prelude.{ℕ, ◌+◌, Bool, true, ◌||◌, nat_le, List, [], ◌∷◌, None, codes}
use Rattle.cv_values.specs.Sizes.{is_bad_name}
use Rattle.fn_check.specs.Expressions.{First}
use Rattle.fn_check.specs.Faults.{◌before◌, fault_if}
use Rattle.fn_check.specs.Known.{Names, has_name, with_name, same_text}
use Rattle.fn_check.specs.declared.fault.CheckKind.{CheckKind}
use Rattle.fn_check.specs.declared.fault.CheckKind.TheVariants.{BadName, DuplicateTable, DuplicateIndex, DuplicateField, TooManyTables, TooManyIndexes, TooManyFields}
use Rattle.fn_tree.specs.SyntaxTree.{IndexTree, TableTree}
use Rattle.fn_tree.specs.declared.syntax.Named.{Named}

-- a name of a list: a bad one, one that the names before it have, or one behind the limit
abbrev pub listed_fault : Bool → Names → ℕ → ℕ → CheckKind → CheckKind → Named → First
listed_fault bad seen count limit again many n = fault_if bad n.at BadName before fault_if (has_name seen n.text) n.at again before fault_if (nat_le limit count) n.at many

-- the names of every table's first two indexes are taken
abbrev pub is_bad_index : List ℕ → Bool
is_bad_index name = is_bad_name true name || same_text name (codes "by_id") || same_text name (codes "by_creation_time")

-- a field of an index
abbrev pub field_fault : Names → ℕ → Named → First
field_fault seen count f = listed_fault (is_bad_name true f.text) seen count 16 DuplicateField TooManyFields f

-- the fields of an index, after so many with these names
abbrev pub fields_fault : Names → ℕ → List Named → First
fields_fault seen count [] = None
fields_fault seen count (f ∷ fs) = field_fault seen count f before fields_fault (with_name seen f.text) (count + 1) fs

-- an index: its name and then its fields
abbrev pub index_decl_fault : Names → ℕ → IndexTree → First
index_decl_fault seen count i = listed_fault (is_bad_index i.name.text) seen count 32 DuplicateIndex TooManyIndexes i.name before fields_fault [] 0 i.fields

-- the indexes of a table, after so many with these names
abbrev pub indexes_fault : Names → ℕ → List IndexTree → First
indexes_fault seen count [] = None
indexes_fault seen count (i ∷ is) = index_decl_fault seen count i before indexes_fault (with_name seen i.name.text) (count + 1) is

-- a table: its name and then its indexes
abbrev pub table_decl_fault : Names → ℕ → TableTree → First
table_decl_fault seen count t = listed_fault (is_bad_name true t.name.text) seen count 64 DuplicateTable TooManyTables t.name before indexes_fault [] 0 t.indexes

-- the tables, after so many with these names
abbrev pub tables_fault : Names → ℕ → List TableTree → First
tables_fault seen count [] = None
tables_fault seen count (t ∷ ts) = table_decl_fault seen count t before tables_fault (with_name seen t.name.text) (count + 1) ts
