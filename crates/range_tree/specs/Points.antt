-- Points, and where an interval begins and ends.
use Rattle.std.specs.Prelude.{ℕ, Bool, List}
use Rattle.std.specs.Cmp.Lexicographic.{slice_cmp}
use Rattle.std.specs.Ordering.{nat_cmp, is_lt, ordering_then}
use Rattle.std.specs.declared.cmp.Ordering.{Ordering}
use Rattle.cv_keys.specs.declared.interval.Interval.{Interval}

-- a key of an index of a table
abbrev pub Point : Type 0
Point = ℕ × ℕ × List ℕ

-- by table, then index, then key
abbrev pub point_cmp : Point → Point → Ordering
point_cmp p q = ordering_then (ordering_then (nat_cmp p.0 q.0) (nat_cmp p.1 q.1)) (slice_cmp nat_cmp p.2 q.2)

-- whether the one point comes before the other
abbrev pub point_lt : Point → Point → Bool
point_lt p q = is_lt (point_cmp p q)

-- where the interval begins: its first point
abbrev pub low : Interval → Point
low i = (i.table, i.index, i.lo)

-- where the interval ends: the first point behind it
abbrev pub end : Interval → Point
end i = (i.table, i.index, i.hi)
