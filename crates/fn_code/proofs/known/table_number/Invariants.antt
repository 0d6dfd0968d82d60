use Rattle.std.proofs.Common.{◌≡◌, drop}
use Rattle.std.specs.List.{position_from}
use Rattle.std.specs.Str.{bytes_eq}
use Rattle.cv_keys.specs.declared.schema.Table.{Table}
use Rattle.fn_tree.specs.Names.{table_number}
use Rattle.fn_code.proofs.known.table_number.Given as goal

abbrev pub invariant-loop-number : goal.invariant-loop-number
invariant-loop-number l = position_from (λ (t : Table). bytes_eq t.name l.name) l.number (drop l.number l.schema.tables) ≡ table_number l.schema l.name
