-- The tokens of a module text, over its bytes. Tokens are read longest first.
use Rattle.std.specs.Prelude.{ℕ, zero, suc, ◌+◌, ◌-◌, ◌*◌, Bool, true, false, not, ◌&&◌, ◌||◌, ◌==◌, nat_eq, nat_lt, nat_le, if◌then◌else◌, List, [], ◌∷◌, take, find, length, Option, Some, None, codes}
use Rattle.std.specs.Char.{is_ascii_alphabetic, is_ascii_alphanumeric, is_ascii_digit}
use Rattle.std.specs.List.{prefix_len, starts_with}
use Rattle.std.specs.Option.{option_map, option_map_or}
use Rattle.std.specs.Str.{bytes_eq}
use Rattle.fn_tree.specs.Spellings.{word_text, mark_text, all_words, marks_longest_first}
use Rattle.fn_tree.specs.declared.begin.Begin.{Begin}
use Rattle.fn_tree.specs.declared.begin.Begin.TheVariants.{Gap, Token, Bad}
use Rattle.fn_tree.specs.declared.lexeme.Lexeme.{Lexeme}
use Rattle.fn_tree.specs.declared.lexeme.Mark.{Mark}
use Rattle.fn_tree.specs.declared.lexeme.Terminal.{Terminal}
use Rattle.fn_tree.specs.declared.lexeme.Terminal.TheVariants.{Name, Integer, Str, Word as Reserved, Mark as Marked}
use Rattle.fn_tree.specs.declared.lexeme.Word.{Word}

-- ---- names and reserved words

-- a letter or `_`
abbrev pub begins_name : ℕ → Bool
begins_name b = is_ascii_alphabetic b || (b == 95)

-- a letter, a digit or `_`
abbrev pub goes_on_name : ℕ → Bool
goes_on_name b = is_ascii_alphanumeric b || (b == 95)

-- the reserved word that some bytes are
unfoldable pub word_of : List ℕ → Option Word
word_of name = find (λ w. bytes_eq (word_text w) name) all_words

-- a name, or a reserved word
abbrev pub name_terminal : List ℕ → Terminal
name_terminal name = option_map_or Reserved (word_of name) Name

-- the longest run of letters, digits and `_`
unfoldable pub name_begin : List ℕ → Begin
name_begin bs = let n = prefix_len goes_on_name bs in Token (name_terminal (take n bs)) n

-- ---- integers

-- the value of the digits of a number and those that follow them
abbrev pub value_after : ℕ → List ℕ → ℕ
value_after n [] = n
value_after n (d ∷ ds) = value_after (n * 10 + (d - 48)) ds

-- the value of digits
unfoldable pub integer_value : List ℕ → ℕ
integer_value digits = value_after 0 digits

-- the greatest integer
abbrev pub greatest_integer : ℕ
greatest_integer = 9223372036854775807

-- `0`, or digits that begin otherwise and have no greater value
abbrev pub is_integer : List ℕ → Bool
is_integer digits = bytes_eq digits (codes "0") || (not (starts_with nat_eq digits (codes "0")) && nat_le (integer_value digits) greatest_integer)

-- the longest run of digits
unfoldable pub integer_begin : List ℕ → Begin
integer_begin bs = let n = prefix_len is_ascii_digit bs in if is_integer (take n bs) then Token Integer n else Bad

-- ---- strings

-- what may follow a backslash: a quote, a backslash, `n` or `t`
abbrev pub is_escape : ℕ → Bool
is_escape b = (b == 34) || (b == 92) || (b == 110) || (b == 116)

-- the number of bytes up to a string's closing quote and with it, where no control character, no wrong
-- escape and no end comes first; `escaped` says that a backslash stands before the bytes
abbrev pub string_len : Bool → List ℕ → Option ℕ
string_len escaped [] = None
string_len true (b ∷ bs) = if is_escape b then option_map (λ n. n + 1) (string_len false bs) else None
string_len false (b ∷ bs) = if b == 34 then Some 1 else (if nat_lt b 32 then None else option_map (λ n. n + 1) (string_len (b == 92) bs))

-- the string whose bytes after its opening quote are these
unfoldable pub string_begin : List ℕ → Begin
string_begin bs = option_map_or (λ n. Token Str (n + 1)) (string_len false bs) Bad

-- ---- marks, blanks and comments

-- the first mark that the bytes begin with, of two bytes before those of one
unfoldable pub mark_of : List ℕ → Option Mark
mark_of bs = find (λ m. starts_with nat_eq bs (mark_text m)) marks_longest_first

abbrev pub mark_begin : List ℕ → Begin
mark_begin bs = option_map_or (λ m. Token (Marked m) (length (mark_text m))) (mark_of bs) Bad

-- a space, a tab, a line feed or a carriage return
abbrev pub is_blank : ℕ → Bool
is_blank b = (b == 32) || (b == 9) || (b == 10) || (b == 13)

-- a comment up to a line feed or the end
unfoldable pub comment_begin : List ℕ → Begin
comment_begin bs = Gap (prefix_len (λ b. not (b == 10)) bs)

-- ---- the tokens

-- what some bytes begin with
unfoldable pub begins : List ℕ → Begin
begins [] = Bad
begins (b ∷ bs) =
    if begins_name b then name_begin (b ∷ bs)
    else (if is_ascii_digit b then integer_begin (b ∷ bs)
    else (if b == 34 then string_begin bs
    else (if is_blank b then Gap 1
    else (if starts_with nat_eq (b ∷ bs) (codes "//") then comment_begin (b ∷ bs)
    else mark_begin (b ∷ bs)))))

-- how many bytes that is
abbrev pub begin_len : Begin → ℕ
begin_len (Gap n) = n
begin_len (Token t n) = n
begin_len Bad = 0

-- the tokens before the first place at which no token begins, and that place
pub record Lexed : Type 0 where
  pub lexemes : List Lexeme
  pub bad : Option ℕ

-- what stands at a place, before what is read after it
abbrev pub put_begin : Begin → ℕ → Lexed → Lexed
put_begin (Gap n) at after = after
put_begin (Token t n) at after = record { lexemes = record { terminal = t; at = at; len = n } ∷ after.lexemes; bad = after.bad }
put_begin Bad at after = record { lexemes = []; bad = Some at }

-- what is read of the bytes from a place on, when so many of them are passed over
abbrev pub lexed_from : ℕ → ℕ → List ℕ → Lexed
lexed_from passed at [] = record { lexemes = []; bad = None }
lexed_from (suc passed) at (b ∷ bs) = lexed_from passed (at + 1) bs
lexed_from zero at (b ∷ bs) = put_begin (begins (b ∷ bs)) at (lexed_from (begin_len (begins (b ∷ bs)) - 1) (at + 1) bs)

-- the tokens of a text
unfoldable pub lexemes_of : List ℕ → Lexed
lexemes_of bs = lexed_from 0 0 bs
