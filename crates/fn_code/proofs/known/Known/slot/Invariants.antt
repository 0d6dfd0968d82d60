use Rattle.std.proofs.Common.{◌≡◌, drop}
use Rattle.std.specs.List.{position_from}
use Rattle.std.specs.Str.{bytes_eq}
use Rattle.fn_code.specs.Coding.{slot_of}
use Rattle.fn_code.proofs.known.Known.slot.Given as goal

abbrev pub invariant-loop-slot : goal.invariant-loop-slot
invariant-loop-slot l = position_from (λ name. bytes_eq name l.name) l.slot (drop l.slot l.self.names) ≡ slot_of l.self l.name
