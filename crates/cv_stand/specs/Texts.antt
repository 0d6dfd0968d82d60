-- The text of a script.
use Rattle.std.specs.Prelude.{ℕ, List, [], ◌∷◌, ◌++◌, length, Option, Some, None, codes}
use Rattle.fn_tree.specs.History.{History}
use Rattle.fn_tree.specs.SyntaxTree.{ModuleTree}
use Rattle.cv_stand.specs.EntryLines.{length_line}
use Rattle.cv_stand.specs.Events.{Script}
use Rattle.cv_stand.specs.Plays.{Played, opening, play}

-- lines, each with its line feed
abbrev pub with_feeds : List (List ℕ) → List ℕ
with_feeds [] = []
with_feeds (line ∷ lines) = line ++ (codes "\n" ++ with_feeds lines)

-- the line behind those of the events: the length of the log, where no line is bad
abbrev pub last_lines : (bad : Option ℕ) → History → List (List ℕ)
last_lines None h = length_line (length h) ∷ []
last_lines (Some n) h = []

-- what a script writes that was played so: the lines of its events, up to a bad line, or to the end and the length of the log
abbrev pub written : (bad : Option ℕ) → Played → List ℕ
written bad p = with_feeds (p.lines ++ last_lines bad p.last.history)

abbrev pub script_text : ModuleTree → Script → List ℕ
script_text m script = written script.bad (play m opening script.events)
