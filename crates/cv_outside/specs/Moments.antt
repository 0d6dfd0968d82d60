-- The one moment that a clock in memory may give.
use Rattle.std.specs.Prelude.{ℤ, Bool, ◌&&◌, int_le}

abbrev pub is_same : ℤ → ℤ → Bool
is_same moment other = int_le moment other && int_le other moment
