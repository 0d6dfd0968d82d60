use Rattle.std.proofs.Common.{◌≡◌, ◌++◌, drop, map}
use Rattle.fn_tree.specs.SyntaxViews.{bound_view, bounds_of}
use Rattle.fn_code.specs.Coding.{ops_of}
use Rattle.fn_code.proofs.emit.operands.ops_of.Given as goal

abbrev pub invariant-loop-bound : goal.invariant-loop-bound
invariant-loop-bound l = l.ops ++ ops_of (bounds_of (map bound_view (drop l.bound-index l.bounds))) ≡ ops_of (bounds_of (map bound_view l.bounds))
