use Rattle.std.proofs.Common.{◌≤◌, length, map, []}
use Rattle.fn_tree.specs.Grammar.{rule}
use Rattle.fn_tree.specs.ParseTrees.{table_of}
use Rattle.fn_tree.specs.Rules.{table}
use Rattle.fn_tree.specs.SyntaxViews.{table_view}
use Rattle.fn_syntax.proofs.Parts.{Turned}
use Rattle.fn_syntax.proofs.Built.{Says}
use Rattle.fn_syntax.proofs.parser.whole.tables.Given as goal

abbrev pub invariant-loop-alloc : goal.invariant-loop-alloc
invariant-loop-alloc l =
    Turned (rule table) (Says (table_of l.text) [] (map table_view l.tables)) l.tokens l.rest × (length l.rest ≤ length l.tokens)

abbrev pub decreases-loop-alloc : goal.decreases-loop-alloc
decreases-loop-alloc l = length l.rest
