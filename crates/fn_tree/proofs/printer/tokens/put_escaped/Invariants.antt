use Rattle.std.proofs.Common.{◌≡◌, ◌++◌, string_bytes}
use Rattle.std.specs.List.{flat_map}
use Rattle.fn_tree.specs.Canonical.{escaped}
use Rattle.fn_tree.proofs.printer.tokens.put_escaped.Given as goal

-- with what is left it is the whole
abbrev pub invariant-loop-c : goal.invariant-loop-c
invariant-loop-c l = string_bytes l.out ++ flat_map escaped l.c-iterator.rest.now ≡ string_bytes l.initial.out ++ flat_map escaped l.text
