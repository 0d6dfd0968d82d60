use Rattle.std.proofs.Common.{◌≡◌, []}
use Rattle.fn_tree.specs.Writing.{with_members}
use Rattle.fn_plain.specs.Scopes.{pairs_view}
use Rattle.fn_plain.proofs.form.fields_of.Given as goal

abbrev pub invariant-loop-name : goal.invariant-loop-name
invariant-loop-name l = l.fields ≡ with_members (pairs_view l.yielded) []
