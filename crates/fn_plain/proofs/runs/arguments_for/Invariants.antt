use Rattle.std.proofs.Common.{◌≡◌, drop}
use Rattle.fn_tree.specs.Functions.{values_for}
use Rattle.fn_plain.proofs.Arguments.{and_rest}
use Rattle.fn_plain.proofs.runs.arguments_for.Given as goal

-- the values so far come before those of the parameters that are left
abbrev pub invariant-loop-param : goal.invariant-loop-param
invariant-loop-param l = and_rest l.values.items (values_for (drop l.param-index l.params) l.args) ≡ values_for l.params l.args
