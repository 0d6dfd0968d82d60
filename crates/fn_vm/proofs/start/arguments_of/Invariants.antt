use Rattle.std.proofs.Common.{◌≡◌, drop}
use Rattle.fn_code.specs.CodeMeans.{values_of}
use Rattle.fn_vm.proofs.Arguments.{and_rest}
use Rattle.fn_vm.proofs.start.arguments_of.Given as goal

-- the values so far come before those of the parameters that are left
abbrev pub invariant-loop-param : goal.invariant-loop-param
invariant-loop-param l = and_rest l.values.items (values_of (drop l.param-index l.params) l.args) ≡ values_of l.params l.args
