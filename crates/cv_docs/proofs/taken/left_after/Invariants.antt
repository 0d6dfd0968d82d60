use Rattle.std.proofs.Common.{◌≡◌, ◌+◌, map}
use Rattle.cv_values.specs.Sizes.{members_size}
use Rattle.cv_values.specs.Trees.{tree}
use Rattle.cv_values.specs.Value.{members_of}
use Rattle.cv_docs.proofs.taken.left_after.Given as goal

abbrev pub invariant-loop-name : goal.invariant-loop-name
invariant-loop-name l =
    l.left + 2 + members_size (members_of l.doc.fields) ≡ l.size + members_size (members_of (map (λ e. (e.0, tree e.1)) l.name-iterator))
