use Rattle.std.proofs.Common.{◌≡◌, ◌++◌, drop, map}
use Rattle.fn_tree.specs.Schemas.{text_of}
use Rattle.fn_code.proofs.emit.functions.texts_of.Given as goal

abbrev pub invariant-loop-name : goal.invariant-loop-name
invariant-loop-name l = l.texts ++ map text_of (drop l.name-index l.names) ≡ map text_of l.names
