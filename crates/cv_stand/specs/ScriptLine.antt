-- The words of a line that calls a function.
use Rattle.std.specs.Prelude.{ℕ, ◌^◌, List, Option, Some, None, length, slice_index, if◌then◌else◌, ◌==◌, ◌&&◌, ◌||◌, not, nat_lt, codes, option_and_then}
use Rattle.std.specs.List.{before_first, after_first, position_or_len, list_all}
use Rattle.std.specs.Str.{bytes_eq}
use Rattle.std.specs.Char.{is_ascii_digit}
use Rattle.std.specs.Str.Parse.{digits_value}

-- the word before the first space, and what follows the space
abbrev pub cut_word : List ℕ → Option (List ℕ × List ℕ)
cut_word s = if nat_lt (position_or_len (λ b. b == 32) s) (length s) then Some (before_first (λ b. b == 32) s, after_first (λ b. b == 32) s) else None

-- a number in decimal, without a leading zero
abbrev pub number_of : List ℕ → Option ℕ
number_of w = if list_all is_ascii_digit w && nat_lt 0 (length w) && (nat_lt (length w) 2 || not (slice_index w 0 == 48)) then Some (digits_value 10 w) else None

-- such a number below 2^32
abbrev pub request_number : List ℕ → Option ℕ
request_number w = option_and_then (λ n. if nat_lt n (2 ^ 32) then Some n else None) (number_of w)

pub record Words : Type 0 where
  pub session : List ℕ
  pub request : List ℕ
  pub udf : List ℕ
  pub json : List ℕ

-- the words of a line `call <uuid> <request> <udf> <json>`, whose last is the rest of the line
abbrev pub words_of : List ℕ → Option Words
words_of s =
    option_and_then (λ a. if bytes_eq a.0 (codes "call") then
    option_and_then (λ b. option_and_then (λ c. option_and_then (λ d.
    Some (record { session = b.0; request = c.0; udf = d.0; json = d.1 })) (cut_word c.1)) (cut_word b.1)) (cut_word a.1) else None) (cut_word s)
