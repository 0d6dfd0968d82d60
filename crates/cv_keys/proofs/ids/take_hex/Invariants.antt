use Rattle.std.proofs.Common.{◌≡◌, ◌-◌, ◌<◌, ◌^◌}
use Rattle.cv_keys.specs.KeyIds.{read_digits}
use Rattle.cv_keys.proofs.ids.take_hex.Given as goal

abbrev pub invariant-loop-i : goal.invariant-loop-i
invariant-loop-i l = record { below : l.number < 16 ^ l._i; read : read_digits (l.width - l._i) l.number l.rest ≡ read_digits l.width 0 l.bytes }
