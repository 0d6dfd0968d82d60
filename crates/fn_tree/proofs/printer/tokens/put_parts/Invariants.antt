use Rattle.std.proofs.Common.{◌≡◌, ◌++◌, string_bytes}
use Rattle.std.specs.List.{flat_map}
use Rattle.fn_tree.specs.Canonical.{apart}
use Rattle.fn_tree.proofs.printer.tokens.put_parts.Given as goal

-- with what is left it is the whole
abbrev pub invariant-loop-c : goal.invariant-loop-c
invariant-loop-c l = string_bytes l.out ++ flat_map apart l.c-iterator.rest.now ≡ string_bytes l.initial.out ++ flat_map apart l.udf
