-- Numbers of tables and indexes.
use Rattle.std.specs.Prelude.{◌≡◌, ◌≤◌, ℕ, length, Some, slice_get}
use Rattle.cv_keys.specs.declared.schema.Schema.{Schema}
use Rattle.cv_keys.specs.declared.schema.Table.{Table}

-- a module declares at most 64 tables, and each has at most 32 indexes beside the two that every table has
pub record HasRoom (schema : Schema) : Type 0 where
  pub tables : length schema.tables ≤ 64
  pub indexes : (n : ℕ) (t : Table) → slice_get schema.tables n ≡ Some t → length t.indexes ≤ 34
