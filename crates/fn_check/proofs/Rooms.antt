-- A checked module has room for numbers of its tables and indexes.
use Rattle.std.proofs.Common.{◌≡◌, ◌≤◌, ◌<◌, ◌+◌, ℕ, zero, suc, Bool, true, false, List, [], ◌∷◌, length, map, refl, subst, arith}
use Rattle.std.specs.Prelude.{Option, Some, None, nat_le, slice_get}
use Rattle.std.proofs.lemmas.List.{length-map}
use Rattle.std.proofs.lemmas.Bool.Decides.{nat_tests}
use Rattle.cv_keys.specs.declared.schema.Table.{Table}
use Rattle.fn_check.specs.Faults.{◌before◌, fault_if}
use Rattle.fn_check.specs.Functions.{first_fault, functions_fault, known_first}
use Rattle.fn_check.specs.Known.{Names, has_name, with_name}
use Rattle.fn_check.specs.Tables.{listed_fault, fields_fault, index_decl_fault, indexes_fault, table_decl_fault, tables_fault, is_bad_index}
use Rattle.fn_check.specs.declared.fault.CheckFault.{CheckFault}
use Rattle.fn_check.specs.declared.fault.CheckKind.{CheckKind}
use Rattle.fn_check.specs.declared.fault.CheckKind.TheVariants.{DuplicateTable, DuplicateIndex, TooManyTables, TooManyIndexes}
use Rattle.cv_values.specs.Sizes.{is_bad_name}
use Rattle.fn_tree.specs.Schemas.{schema_of, declared_table, declared_index}
use Rattle.fn_tree.specs.SyntaxTree.{IndexTree, TableTree, ModuleTree}
use Rattle.fn_tree.specs.declared.syntax.Named.{Named}
use Rattle.fn_check.specs.Rooms.{HasRoom}

none-before : (a b : Option CheckFault) → (a before b) ≡ None → (a ≡ None) × (b ≡ None)
none-before None b h = (refl, h)
none-before (Some fault) b h = cc

none-if : (b : Bool) (at : ℕ) (kind : CheckKind) → fault_if b at kind ≡ None → b ≡ false
none-if true at kind h = cc
none-if false at kind h = refl

below-limit : (bad : Bool) (seen : Names) (count limit : ℕ) (again many : CheckKind) (n : Named) → listed_fault bad seen count limit again many n ≡ None → count < limit
below-limit bad seen count limit again many n h =
    let e = none-if (nat_le limit count) n.at many
    (none-before (fault_if (has_name seen n.text) n.at again) (fault_if (nat_le limit count) n.at many) (none-before (fault_if bad n.at _) _ h).1).1 in
    grind (arith, nat_tests, e)

few-indexes : (seen : Names) (count : ℕ) (is : List IndexTree) → count ≤ 32 → indexes_fault seen count is ≡ None → count + length is ≤ 32
few-indexes seen count [] w h = omega (arith, w)
few-indexes seen count (i ∷ is) w h =
    let e = none-before (index_decl_fault seen count i) (indexes_fault (with_name seen i.name.text) (count + 1) is) h in
    let below = below-limit (is_bad_index i.name.text) seen count 32 DuplicateIndex TooManyIndexes i.name (none-before _ (fields_fault [] 0 i.fields) e.0).0 in
    let more = few-indexes (with_name seen i.name.text) (count + 1) is (omega (arith, below)) e.1 in
    omega (arith, more)

few-tables : (seen : Names) (count : ℕ) (ts : List TableTree) → count ≤ 64 → tables_fault seen count ts ≡ None → count + length ts ≤ 64
few-tables seen count [] w h = omega (arith, w)
few-tables seen count (t ∷ ts) w h =
    let e = none-before (table_decl_fault seen count t) (tables_fault (with_name seen t.name.text) (count + 1) ts) h in
    let below = below-limit (is_bad_name true t.name.text) seen count 64 DuplicateTable TooManyTables t.name (none-before _ (indexes_fault [] 0 t.indexes) e.0).0 in
    let more = few-tables (with_name seen t.name.text) (count + 1) ts (omega (arith, below)) e.1 in
    omega (arith, more)

-- the number of a table's indexes, with the two that each table has
indexes-fit : (t : TableTree) → indexes_fault [] 0 t.indexes ≡ None → length (declared_table t).indexes ≤ 34
indexes-fit t h =
    let few = few-indexes [] 0 t.indexes (omega arith) h in
    let same : length (map declared_index t.indexes) ≡ length t.indexes = length-map t.indexes declared_index in
    omega (arith, few, same)

each-fits : (seen : Names) (count : ℕ) (ts : List TableTree) → tables_fault seen count ts ≡ None → (n : ℕ) (u : Table) → slice_get (map declared_table ts) n ≡ Some u → length u.indexes ≤ 34
each-fits seen count [] h n u there = cc
each-fits seen count (t ∷ ts) h zero u there =
    let e = none-before (table_decl_fault seen count t) (tables_fault (with_name seen t.name.text) (count + 1) ts) h in
    let is : declared_table t ≡ u = cc in
    subst (λ (v : Table). length v.indexes ≤ 34) is (indexes-fit t (none-before _ (indexes_fault [] 0 t.indexes) e.0).1)
each-fits seen count (t ∷ ts) h (suc n) u there =
    each-fits (with_name seen t.name.text) (count + 1) ts (none-before (table_decl_fault seen count t) (tables_fault (with_name seen t.name.text) (count + 1) ts) h).1 n u there

pub checked_room : (m : ModuleTree) → first_fault m ≡ None → HasRoom (schema_of m.tables)
checked_room m h =
    let e = (none-before (tables_fault [] 0 m.tables) (functions_fault (known_first (schema_of m.tables)) [] 0 m.functions) h).0 in
    let few = few-tables [] 0 m.tables (omega arith) e in
    let same : length (map declared_table m.tables) ≡ length m.tables = length-map m.tables declared_table in
    record {
      tables = omega (arith, few, same);
      indexes = each-fits [] 0 m.tables e;
    }
