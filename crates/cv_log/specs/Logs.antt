-- What a log answers.
use Rattle.std.specs.Prelude.{◌≡◌, ℕ, zero, suc, Bool, ◌&&◌, nat_eq, List, [], map, slice_get, Option, Some, None, option_map}
use Rattle.cv_keys.specs.declared.schema.Schema.{Schema}
use Rattle.cv_reads.specs.declared.mark.Mark.{Mark}
use Rattle.fn_tree.specs.EntryViews.{entry_view}
use Rattle.fn_tree.specs.History.{Entry, History}
use Rattle.cv_store.specs.Kept.{kept}
use Rattle.cv_store.specs.Marks.{entry_marks}
use Rattle.cv_log.specs.declared.touch.Marked.{Marked}

abbrev pub entries_in : List Marked → History
entries_in ms = map (λ m. entry_view m.entry) ms

abbrev pub marks_in : List Marked → List (List Mark)
marks_in ms = map (λ m. m.marks.items) ms

-- what stands at a timestamp, counted from 1
abbrev pub entry_at : {A : Type 0} → ℕ → List A → Option A
entry_at zero h = None
entry_at (suc k) h = slice_get h k

abbrev pub or_no_marks : Option (List Mark) → List Mark
or_no_marks None = []
or_no_marks (Some ms) = ms

-- the marks at a timestamp, none where there is no entry
abbrev pub marks_at : ℕ → List (List Mark) → List Mark
marks_at ts marks = or_no_marks (entry_at ts marks)

-- the timestamp of the entry of a session's request, if there is one
abbrev pub timestamp_of : (session request : ℕ) → History → Option ℕ
timestamp_of session request h = option_map (λ k. k.0) (kept session request h)

-- these are the entry's marks at a timestamp over some tables
abbrev pub AreMarksOf : List Mark → (ts : ℕ) → Entry → Type 0
AreMarksOf marks ts e = (schema : Schema) × (marks ≡ entry_marks schema ts e)

-- how two pairs of a session and a request are compared
abbrev pub same_pair : (ℕ × ℕ) → (ℕ × ℕ) → Bool
same_pair p q = nat_eq p.0 q.0 && nat_eq p.1 q.1
