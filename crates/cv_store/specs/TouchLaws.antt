-- The first touch goes by marks.
use Rattle.std.specs.Prelude.{◌≡◌, ℕ, List, [], ◌∷◌, drop, slice_get, Option, Some, None}
use Rattle.cv_keys.specs.declared.interval.Interval.{Interval}
use Rattle.cv_keys.specs.declared.schema.Schema.{Schema}
use Rattle.cv_reads.specs.FirstTouch.{first_interval, first_touch as first_mark}
use Rattle.cv_reads.specs.declared.mark.Mark.{Mark}
use Rattle.fn_tree.specs.History.{Entry, History}
use Rattle.cv_store.specs.FirstTouch.{by_key, writes_touch, first_touch}
use Rattle.cv_store.specs.Marks.{entry_marks, marks_by_entry}
use Rattle.cv_store.specs.Tails.{joined}
use Rattle.cv_store.specs.declared.conflict.Conflict.{Conflict}

-- what a mark and the number of a range tell of
abbrev pub conflict_of : Mark → (range : ℕ) → Conflict
conflict_of m range = record { ts = m.ts; write = m.write; fresh = m.fresh; table = m.table; index = m.index; range = range }

-- the first of these marks that lies in a range, and the first such range
abbrev pub mark_touch : List Mark → List Interval → Option Conflict
mark_touch [] reads = None
mark_touch (m ∷ ms) reads = elim (first_interval m reads) [ Some range ↦ Some (conflict_of m range) | None ↦ mark_touch ms reads ]

-- the first touch of an entry is that of its marks
abbrev pub EntriesGoByMarks : Type 0
EntriesGoByMarks = (schema : Schema) (reads : List Interval) (ts : ℕ) (e : Entry)
    → writes_touch schema by_key reads ts 0 e.writes ≡ mark_touch (entry_marks schema ts e) reads

-- that of a history after a timestamp is that of the marks of the entries after it
abbrev pub HistoriesGoByMarks : Type 0
HistoriesGoByMarks = (schema : Schema) (reads : List Interval) (h : History) (s : ℕ)
    → first_touch schema reads h s ≡ mark_touch (joined (marks_by_entry schema s (drop s h))) reads

-- what a read set answers of marks tells of the mark with that number
abbrev pub AnswerTells : List Mark → List Interval → Option (ℕ × ℕ) → Type 0
AnswerTells ms reads None = mark_touch ms reads ≡ None
AnswerTells ms reads (Some found) = (m : Mark) × (slice_get ms found.0 ≡ Some m) × (mark_touch ms reads ≡ Some (conflict_of m found.1))

abbrev pub AnswersTell : Type 0
AnswersTell = (ms : List Mark) (reads : List Interval) → AnswerTells ms reads (first_mark ms reads)
