use Rattle.std.proofs.Common.{◌≡◌, drop, []}
use Rattle.fn_check.specs.Tables.{fields_fault}
use Rattle.fn_check.proofs.table.check_fields.Given as goal

abbrev pub invariant-loop-count : goal.invariant-loop-count
invariant-loop-count l = fields_fault l.seen.keys l.count (drop l.count l.fields) ≡ fields_fault [] 0 l.fields
