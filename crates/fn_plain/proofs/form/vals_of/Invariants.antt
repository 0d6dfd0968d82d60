use Rattle.std.proofs.Common.{◌≡◌, map}
use Rattle.cv_values.specs.Trees.{tree}
use Rattle.fn_plain.proofs.form.vals_of.Given as goal

abbrev pub invariant-loop-value : goal.invariant-loop-value
invariant-loop-value l = l.items ≡ map tree l.yielded
