-- The first mark that lies in some interval, and the first such interval.
use Rattle.std.specs.Prelude.{ℕ, ◌+◌, Bool, List, [], ◌∷◌, Option, Some, None}
use Rattle.std.specs.List.{position_from}
use Rattle.cv_keys.specs.Intervals.{contains}
use Rattle.cv_keys.specs.declared.interval.Interval.{Interval}
use Rattle.cv_reads.specs.declared.mark.Mark.{Mark}

-- the mark lies in the interval
abbrev pub is_marked : Mark → Interval → Bool
is_marked m i = contains i m.table m.index m.key

-- the number of the first interval that the mark lies in
abbrev pub first_interval : Mark → List Interval → Option ℕ
first_interval m intervals = position_from (is_marked m) 0 intervals

-- the first of these marks, numbered from k on, that lies in some interval, and the first such interval
abbrev pub first_touch_from : ℕ → List Mark → List Interval → Option (ℕ × ℕ)
first_touch_from k [] intervals = None
first_touch_from k (m ∷ marks) intervals = elim (first_interval m intervals) [
  | Some range ↦ Some (k, range)
  | None ↦ first_touch_from (k + 1) marks intervals
]

abbrev pub first_touch : List Mark → List Interval → Option (ℕ × ℕ)
first_touch marks intervals = first_touch_from 0 marks intervals
