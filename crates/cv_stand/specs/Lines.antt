-- The lines of an input.
use Rattle.std.specs.Prelude.{ℕ, ◌-◌, List, [], ◌∷◌, length, slice_index, take, if◌then◌else◌, ◌==◌, nat_lt, ◌&&◌}

-- a byte before the first of some lines
abbrev pub put_before : ℕ → List (List ℕ) → List (List ℕ)
put_before b [] = (b ∷ []) ∷ []
put_before b (line ∷ lines) = (b ∷ line) ∷ lines

-- the lines of an input, each with its line feed, which the last may lack
abbrev pub lines_of : List ℕ → List (List ℕ)
lines_of [] = []
lines_of (b ∷ bs) = if b == 10 then (10 ∷ []) ∷ lines_of bs else put_before b (lines_of bs)

-- a line without this byte at its end
abbrev pub without_end : ℕ → List ℕ → List ℕ
without_end b line = if nat_lt 0 (length line) && (slice_index line (length line - 1) == b) then take (length line - 1) line else line

-- what a line says: its line feed is left out, and then one carriage return
abbrev pub text_of : List ℕ → List ℕ
text_of line = without_end 13 (without_end 10 line)
