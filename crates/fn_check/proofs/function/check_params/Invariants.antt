use Rattle.std.proofs.Common.{◌≡◌, drop}
use Rattle.fn_check.specs.Functions.{params_fault, with_params}
use Rattle.fn_check.proofs.function.check_params.Given as goal

abbrev pub invariant-loop-param : goal.invariant-loop-param
invariant-loop-param l = record {
  fault : params_fault l.scope (drop l.param-index l.params) ≡ params_fault l.initial.scope l.params;
  scope : with_params l.scope (drop l.param-index l.params) ≡ with_params l.initial.scope l.params;
}
