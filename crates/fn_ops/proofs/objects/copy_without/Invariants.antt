use Rattle.std.proofs.Common.{◌≡◌, map}
use Rattle.cv_values.specs.Trees.{tree}
use Rattle.fn_ops.proofs.Kept.{inserted, others}
use Rattle.fn_ops.proofs.objects.copy_without.Given as goal

abbrev pub invariant-loop-name : goal.invariant-loop-name
invariant-loop-name l = inserted l.kept (others l.left_out (map (λ e. (e.0, tree e.1)) l.name-iterator)) ≡ others l.left_out l.fields
