use Rattle.std.proofs.Common.{◌≡◌, drop}
use Rattle.fn_code.specs.CodeMeans.{entry_of}
use Rattle.fn_vm.proofs.start.entry_of.Given as goal

-- what is looked for is found among the functions that are left
abbrev pub invariant-loop-entry : goal.invariant-loop-entry
invariant-loop-entry l = entry_of l.kind l.udf (drop l.entry-index l.entries) ≡ entry_of l.kind l.udf l.entries
