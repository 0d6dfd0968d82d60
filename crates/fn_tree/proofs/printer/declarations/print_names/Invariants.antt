use Rattle.std.proofs.Common.{◌≡◌, ◌++◌, string_bytes, drop, true}
use Rattle.fn_tree.specs.Canonical.{names_text}
use Rattle.fn_tree.proofs.printer.declarations.print_names.Given as goal

-- with what is left it is the whole
abbrev pub invariant-loop-name : goal.invariant-loop-name
invariant-loop-name l = string_bytes l.out ++ names_text l.first (drop l.name-index l.names) ≡ string_bytes l.initial.out ++ names_text true l.names
