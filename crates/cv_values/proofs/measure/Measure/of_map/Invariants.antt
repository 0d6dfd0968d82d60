use Rattle.std.proofs.Common.{◌≡◌, ◌-◌, ◌^◌, ◌≤◌, map}
use Rattle.cv_values.specs.Measures.{add, of_members}
use Rattle.cv_values.specs.Trees.{tree}
use Rattle.cv_values.proofs.measure.Measure.of_map.Given as goal

abbrev pub invariant-loop-name : goal.invariant-loop-name
invariant-loop-name l =
    (l.total.size ≤ 2 ^ 64 - 1) × (add l.total (of_members (map (λ e. (e.0, tree e.1)) l.name-iterator)) ≡ of_members (map (λ e. (e.0, tree e.1)) l.members.entries))
