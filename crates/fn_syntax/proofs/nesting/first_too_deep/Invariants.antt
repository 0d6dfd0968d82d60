use Rattle.std.proofs.Common.{◌≡◌, ◌+◌, ◌≤◌, drop}
use Rattle.std.specs.Option.{option_map}
use Rattle.fn_tree.specs.Nesting.{first_deeper}
use Rattle.fn_syntax.proofs.nesting.first_too_deep.Given as goal

abbrev pub invariant-loop-i : goal.invariant-loop-i
invariant-loop-i l = (l.open ≤ 32) × (first_deeper 32 0 l.lexemes ≡ option_map (λ n. n + l.i) (first_deeper 32 l.open (drop l.i l.lexemes)))
