-- What tokens say: their bytes, and the text and the number that these mean.
use Rattle.std.specs.Prelude.{ℕ, Bool, true, false, ◌==◌, if◌then◌else◌, List, [], ◌∷◌, ◌++◌, take, drop, length, min}
use Rattle.std.specs.Str.Lossy.{utf8_valid_len}
use Rattle.fn_tree.specs.Lexemes.{integer_value, greatest_integer}
use Rattle.fn_tree.specs.declared.lexeme.Lexeme.{Lexeme}

-- the bytes of a token
abbrev pub slice_of : List ℕ → Lexeme → List ℕ
slice_of text x = take x.len (drop x.at text)

-- bytes as a text, which is empty where they aren't UTF-8; those of a UTF-8 text's tokens always are
unfoldable pub text_of : List ℕ → List ℕ
text_of bs = if utf8_valid_len bs == length bs then bs else []

-- the number that an integer's bytes say, at most the greatest; those of a text's integers are no greater
abbrev pub number_of : List ℕ → ℕ
number_of digits = min (integer_value digits) greatest_integer

-- the byte that one stands for after a backslash
abbrev pub unescaped : ℕ → ℕ
unescaped b = if b == 110 then 10 else (if b == 116 then 9 else b)

-- what a string's bytes after its opening quote say; `escaped` says that a backslash stands before them
abbrev pub contents : Bool → List ℕ → List ℕ
contents escaped [] = []
contents true (b ∷ bs) = unescaped b ∷ contents false bs
contents false (b ∷ bs) = if b == 34 then [] else (if b == 92 then [] else b ∷ []) ++ contents (b == 92) bs

-- what a string's bytes say, which begin with its opening quote
abbrev pub string_value : List ℕ → List ℕ
string_value bs = contents false (drop 1 bs)
