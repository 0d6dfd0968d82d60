use Rattle.std.proofs.Common.{◌≤◌, length, map, []}
use Rattle.fn_tree.specs.Grammar.{rule}
use Rattle.fn_tree.specs.ParseTrees.{function_of}
use Rattle.fn_tree.specs.Rules.{function}
use Rattle.fn_tree.specs.SyntaxViews.{function_view}
use Rattle.fn_syntax.proofs.Parts.{Turned}
use Rattle.fn_syntax.proofs.Built.{Says}
use Rattle.fn_syntax.proofs.parser.whole.functions.Given as goal

abbrev pub invariant-loop-rest : goal.invariant-loop-rest
invariant-loop-rest l =
    Turned (rule function) (Says (function_of l.text) [] (map function_view l.functions)) l.tokens l.rest × (length l.rest ≤ length l.tokens)

abbrev pub decreases-loop-rest : goal.decreases-loop-rest
decreases-loop-rest l = length l.rest
