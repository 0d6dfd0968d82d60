-- A tail by the marks of each entry.
use Rattle.std.specs.Prelude.{ℕ, ◌+◌, min, List, length, take, drop}
use Rattle.cv_reads.specs.declared.mark.Mark.{Mark}
use Rattle.cv_store.specs.Tails.{entries_taken, joined}
use Rattle.cv_store.specs.declared.tail.Tail.{Tail}

abbrev pub tail_in : List (List Mark) → (from : ℕ) → Tail
tail_in marks from =
    let n = entries_taken (drop from marks) in
    record { from = from; to = min (from + n) (length marks); end = length marks; marks = joined (take n (drop from marks)) }
