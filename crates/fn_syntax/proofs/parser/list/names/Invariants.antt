use Rattle.std.proofs.Common.{◌≤◌, length}
use Rattle.fn_tree.specs.Grammar.{token, seq}
use Rattle.fn_tree.specs.Language.{mark}
use Rattle.fn_tree.specs.ParseTrees.{named_of, token_of, second}
use Rattle.fn_tree.specs.declared.lexeme.Mark.TheVariants.{Comma}
use Rattle.fn_syntax.specs.Classes.{has}
use Rattle.fn_syntax.proofs.Parts.{Turned}
use Rattle.fn_syntax.proofs.Built.{Says}
use Rattle.fn_syntax.proofs.parser.list.names.Given as goal

abbrev pub invariant-loop-after : goal.invariant-loop-after
invariant-loop-after l =
    Turned (seq (mark Comma) (token (has l.class))) (Says (λ a. named_of l.text (token_of (second a))) l.initial.names l.names) l.initial.rest l.rest × (length l.rest ≤ length l.initial.rest)

abbrev pub decreases-loop-after : goal.decreases-loop-after
decreases-loop-after l = length l.rest
