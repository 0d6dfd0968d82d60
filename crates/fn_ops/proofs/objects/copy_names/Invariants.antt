use Rattle.std.proofs.Common.{◌≡◌, ◌++◌, map}
use Rattle.std.specs.Map.{keys_of}
use Rattle.cv_values.specs.Trees.{tree}
use Rattle.cv_values.specs.Value.{string}
use Rattle.fn_ops.proofs.objects.copy_names.Given as goal

abbrev pub invariant-loop-name : goal.invariant-loop-name
invariant-loop-name l = l.names ++ map (λ n. string n) (keys_of (map (λ e. (e.0, tree e.1)) l.name-iterator)) ≡ map (λ n. string n) (keys_of l.fields)
