-- The line that ends the module text.
use Rattle.std.specs.Prelude.{ℕ, List, [], ◌∷◌, ◌++◌, Bool, Option, None, Some, length, slice_index, if◌then◌else◌, ◌==◌, ◌&&◌}
use Rattle.std.specs.Option.{option_map}
use Rattle.cv_stand.specs.Lines.{text_of}

-- a line that says `%%`
abbrev pub is_mark : List ℕ → Bool
is_mark line = (length (text_of line) == 2) && (slice_index (text_of line) 0 == 37) && (slice_index (text_of line) 1 == 37)

-- the lines before the first that says `%%`, and those after it
abbrev pub halves : List (List ℕ) → Option (List (List ℕ) × List (List ℕ))
halves [] = None
halves (line ∷ lines) = if is_mark line then Some ([], lines) else option_map (λ p. (line ∷ p.0, p.1)) (halves lines)

-- some lines, one after another
abbrev pub concat : List (List ℕ) → List ℕ
concat [] = []
concat (line ∷ lines) = line ++ concat lines
