use Rattle.std.proofs.Common.{◌≤◌, length, map, []}
use Rattle.fn_tree.specs.Grammar.{rule}
use Rattle.fn_tree.specs.ParseTrees.{index_of}
use Rattle.fn_tree.specs.Rules.{index}
use Rattle.fn_tree.specs.SyntaxViews.{index_view}
use Rattle.fn_syntax.proofs.Parts.{Turned}
use Rattle.fn_syntax.proofs.Built.{Says}
use Rattle.fn_syntax.proofs.parser.declaration.indexes.Given as goal

abbrev pub invariant-loop-alloc : goal.invariant-loop-alloc
invariant-loop-alloc l =
    Turned (rule index) (Says (index_of l.text) [] (map index_view l.indexes)) l.tokens l.rest × (length l.rest ≤ length l.tokens)

abbrev pub decreases-loop-alloc : goal.decreases-loop-alloc
decreases-loop-alloc l = length l.rest
