use Rattle.std.proofs.Common.{◌≤◌, ◌+◌, ◌*◌, length, map, []}
use Rattle.fn_tree.specs.Grammar.{rule}
use Rattle.fn_tree.specs.ParseTrees.{statement_of}
use Rattle.fn_tree.specs.Rules.{statement}
use Rattle.fn_tree.specs.SyntaxViews.{stmt_view}
use Rattle.fn_syntax.proofs.Parts.{Turned}
use Rattle.fn_syntax.proofs.Built.{Says}
use Rattle.fn_syntax.proofs.parser.statement.+statements.Given as goal

abbrev pub decreases-block : goal.decreases-block
decreases-block l = 3 * length l.tokens.now

abbrev pub decreases-block_rest : goal.decreases-block_rest
decreases-block_rest l = 3 * length l.tokens.now + 2

abbrev pub decreases-for_statement : goal.decreases-for_statement
decreases-for_statement l = 3 * length l.tokens.now

abbrev pub decreases-if_statement : goal.decreases-if_statement
decreases-if_statement l = 3 * length l.tokens.now

abbrev pub decreases-other_branch : goal.decreases-other_branch
decreases-other_branch l = 3 * length l.tokens.now

abbrev pub decreases-statement : goal.decreases-statement
decreases-statement l = 3 * length l.tokens.now + 1

abbrev pub invariant-block_rest-loop-alloc : goal.invariant-block_rest-loop-alloc
invariant-block_rest-loop-alloc l =
    Turned (rule statement) (Says (statement_of l.text) [] (map stmt_view l.body)) l.tokens l.rest × (length l.rest ≤ length l.tokens)

abbrev pub decreases-block_rest-loop-alloc : goal.decreases-block_rest-loop-alloc
decreases-block_rest-loop-alloc l = length l.rest
