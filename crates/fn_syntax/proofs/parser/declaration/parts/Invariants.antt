use Rattle.std.proofs.Common.{◌≤◌, length, string_bytes}
use Rattle.fn_tree.specs.Grammar.{token, seq}
use Rattle.fn_tree.specs.Language.{mark}
use Rattle.fn_tree.specs.Terminals.{is_part}
use Rattle.fn_tree.specs.declared.lexeme.Mark.TheVariants.{Slash}
use Rattle.fn_syntax.proofs.Parts.{Turned}
use Rattle.fn_syntax.proofs.Built.{SaysParts}
use Rattle.fn_syntax.proofs.parser.declaration.parts.Given as goal

abbrev pub invariant-loop-after : goal.invariant-loop-after
invariant-loop-after l =
    Turned (seq (mark Slash) (token is_part)) (SaysParts l.text (string_bytes l.fn.front) (string_bytes l.path)) l.tokens l.rest × (length l.rest ≤ length l.tokens)

abbrev pub decreases-loop-after : goal.decreases-loop-after
decreases-loop-after l = length l.rest
