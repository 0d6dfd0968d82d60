use Rattle.std.proofs.Common.{◌≡◌, false, map}
use Rattle.std.specs.List.{list_any}
use Rattle.std.specs.Map.{keys_of}
use Rattle.cv_values.specs.Sizes.{is_bad_name}
use Rattle.cv_values.specs.Trees.{tree}
use Rattle.fn_ops.proofs.objects.has_bad_name.Given as goal

abbrev pub invariant-loop-name : goal.invariant-loop-name
invariant-loop-name l = list_any (is_bad_name false) (keys_of (map (λ e. (e.0, tree e.1)) l.name-iterator)) ≡ list_any (is_bad_name false) (keys_of l.fields)
