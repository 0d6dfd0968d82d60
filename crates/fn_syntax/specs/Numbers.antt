-- Numbers of the machine.
use Rattle.std.specs.Prelude.{ℕ}

-- the greatest number of 64 bits
abbrev pub greatest_word : ℕ
greatest_word = 18446744073709551615
