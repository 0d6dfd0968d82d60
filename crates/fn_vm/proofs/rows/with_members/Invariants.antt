use Rattle.std.proofs.Common.{◌≡◌, map}
use Rattle.cv_values.specs.Trees.{tree}
use Rattle.fn_tree.specs.Writing.{with_members}
use Rattle.fn_vm.proofs.rows.with_members.Given as goal

abbrev pub invariant-loop-name : goal.invariant-loop-name
invariant-loop-name l = with_members (map (λ e. (e.0, tree e.1)) l.name-iterator) l.fields ≡ with_members l.new l.old
