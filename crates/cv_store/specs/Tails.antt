-- What comes after a timestamp.
use Rattle.std.specs.Prelude.{ℕ, zero, suc, ◌+◌, ◌-◌, nat_le, cond, min, max, List, [], ◌∷◌, ◌++◌, length, take, drop}
use Rattle.cv_keys.specs.declared.schema.Schema.{Schema}
use Rattle.cv_reads.specs.declared.mark.Mark.{Mark}
use Rattle.fn_tree.specs.History.{History}
use Rattle.cv_store.specs.Marks.{marks_by_entry}
use Rattle.cv_store.specs.declared.tail.Tail.{Tail}

-- the most entries of a tail, and the most marks where there is more than one entry
abbrev pub tail_entries : ℕ
tail_entries = 256

abbrev pub tail_marks : ℕ
tail_marks = 65536

-- how many of these entries, at most n, have at most so many marks together
abbrev pub fitting : (n room : ℕ) → List (List Mark) → ℕ
fitting zero room ms = 0
fitting (suc n) room [] = 0
fitting (suc n) room (m ∷ ms) = cond (nat_le (length m) room) (suc (fitting n (room - length m) ms)) 0

-- how many entries a tail takes: one at least, where there is one
abbrev pub entries_taken : List (List Mark) → ℕ
entries_taken ms = max (min 1 (length ms)) (fitting tail_entries tail_marks ms)

abbrev pub joined : List (List Mark) → List Mark
joined [] = []
joined (m ∷ ms) = m ++ joined ms

-- the tail from a timestamp on; from behind the end nothing comes
abbrev pub tail_from : Schema → History → (from : ℕ) → Tail
tail_from schema h from =
    let later = marks_by_entry schema from (drop from h) in
    let n = entries_taken later in
    record { from = from; to = min (from + n) (length h); end = length h; marks = joined (take n later) }
