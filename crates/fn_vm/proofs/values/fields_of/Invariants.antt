use Rattle.std.proofs.Common.{◌≡◌, [], map, zip, drop}
use Rattle.std.specs.Vec.Iter.{into_iter_items}
use Rattle.cv_values.specs.Trees.{tree}
use Rattle.fn_tree.specs.Writing.{with_members}
use Rattle.fn_vm.proofs.values.fields_of.Given as goal

-- what is left goes to the fields so far
abbrev pub invariant-loop-name : goal.invariant-loop-name
invariant-loop-name l = with_members (zip (drop l.name-index l.names) (map tree (into_iter_items l.rest))) l.fields ≡ with_members (zip l.fn.names (map tree l.fn.values.items)) []
