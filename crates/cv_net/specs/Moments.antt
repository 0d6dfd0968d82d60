-- The moment that a clock tells.
use Rattle.std.specs.Prelude.{ℕ, ℤ, ◌/◌, ◌^◌, pos, nat_lt, if◌then◌else◌}

-- the milliseconds of so many nanoseconds, or 0 where they don't fit
abbrev pub moment_of : ℕ → ℤ
moment_of nanos = if nat_lt (nanos / 1_000_000) (2 ^ 63) then pos (nanos / 1_000_000) else pos 0
