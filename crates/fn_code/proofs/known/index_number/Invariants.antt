use Rattle.std.proofs.Common.{◌≡◌, drop}
use Rattle.std.specs.List.{position_from}
use Rattle.std.specs.Str.{bytes_eq}
use Rattle.cv_keys.specs.declared.schema.Index.{Index}
use Rattle.fn_tree.specs.Names.{index_number}
use Rattle.fn_code.proofs.known.index_number.Given as goal

abbrev pub invariant-loop-number : goal.invariant-loop-number
invariant-loop-number l = position_from (λ (i : Index). bytes_eq i.name l.name) l.number (drop l.number l.table.indexes) ≡ index_number l.table l.name
