-- The events of the lines that are read.
use Rattle.std.proofs.Common.{◌≡◌, ℕ, List, ◌++◌, length, false, ◌==◌, eq-eqb, map, Option}
use Rattle.std.specs.Str.{IsUtf8}
use Rattle.std.proofs.lemmas.Str.{utf8_valid_len-IsUtf8}
use Rattle.cv_stand.specs.Events as plain
use Rattle.cv_stand.specs.Events.{says_event, event_in, said}
use Rattle.cv_stand.specs.ScriptViews.{event_view}
use Rattle.cv_stand.specs.declared.script.Event.{Event}

abbrev pub numbered : ℕ × Event → ℕ × plain.Event
numbered e = (e.0, event_view e.1)

-- events before those of a script
abbrev pub put_before : List (ℕ × Event) → plain.Script → plain.Script
put_before es s = record { events = map numbered es ++ s.events; bad = s.bad }

-- what a line says that is text and isn't empty
pub line_says : (line : List ℕ) (e : Option plain.Event) → (length line == 0) ≡ false → IsUtf8 line → e ≡ event_in line → says_event e ≡ said line
line_says line e some utf8 is = rw (some, eq-eqb _ _ (utf8_valid_len-IsUtf8 line utf8), is)
