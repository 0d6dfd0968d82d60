-- Intervals in bytes.
use Rattle.std.specs.Prelude.{ℕ, Bool, ◌&&◌, ◌==◌, List}
use Rattle.cv_keys.specs.KeyBytes.{end_key, is_between}
use Rattle.cv_keys.specs.Places.{PlaceInterval}
use Rattle.cv_keys.specs.declared.interval.Interval.{Interval}

-- the key is one of this index and lies in the interval
abbrev pub contains : Interval → ℕ → ℕ → List ℕ → Bool
contains i table index k = (i.table == table) && (i.index == index) && is_between k i.lo i.hi

-- the interval with the bytes of its ends
abbrev pub in_bytes : PlaceInterval → Interval
in_bytes i = record { table = i.table; index = i.index; lo = end_key i.lo; hi = end_key i.hi }
