-- The bytes of a UTF-8 text's tokens are UTF-8, and so is what its strings say.
use Rattle.std.proofs.Common.{◌≡◌, ℕ, ◌+◌, ◌-◌, ◌<◌, ◌≤◌, List, [], ◌∷◌, length, take, drop, get_or, false, add-zero, eq-eqb, arith}
use Rattle.std.specs.Str.{IsUtf8, IsCharBoundary}
use Rattle.std.specs.Str.Lossy.{utf8_valid_len}
use Rattle.std.proofs.lemmas.List.{length-drop, length-take-le, get_or-take, get_or-drop}
use Rattle.std.proofs.lemmas.Str.{IsUtf8-between, IsUtf8-drop, IsCharBoundary-before_ascii, IsCharBoundary-after_ascii, utf8_valid_len-IsUtf8}
use Rattle.fn_tree.specs.Lexemes.{begins, lexemes_of}
use Rattle.fn_tree.specs.LexemeLaws.{TokensAreTexts}
use Rattle.fn_tree.specs.LexemeValues.{slice_of, text_of, string_value}
use Rattle.fn_tree.specs.declared.begin.Begin.TheVariants.{Token}
use Rattle.fn_tree.specs.declared.lexeme.Lexeme.{Lexeme}
use Rattle.fn_tree.specs.declared.lexeme.Terminal.{Terminal}
use Rattle.fn_tree.proofs.AsciiEnds.{EndsInAscii, begins_end_in_ascii}
use Rattle.fn_tree.proofs.Begins.{Fits, begins_fits}
use Rattle.fn_tree.proofs.StringsSay.{contents_text}
use Rattle.fn_tree.proofs.TokensRead.{tokens_are_read}

-- a token that some bytes begin with
record IsToken (bs : List ℕ) (n : ℕ) : Type 0 where
  some : 0 < n
  within : n ≤ length bs
  first : get_or bs 0 0 < 128
  last : get_or bs (n - 1) 0 < 128

token_of : (b : ℕ) (bs : List ℕ) (t : Terminal) (n : ℕ) → begins (b ∷ bs) ≡ Token t n → IsToken (b ∷ bs) n
token_of b bs t n e =
    let f : Fits (Token t n) (length (b ∷ bs)) = rw e at (begins_fits b bs) in
    let a : EndsInAscii (b ∷ bs) (Token t n) = rw e at (begins_end_in_ascii (b ∷ bs)) in
    record { some = f.0; within = f.1; first = a.0; last = a.1 }

token_at : (bs : List ℕ) (t : Terminal) (n : ℕ) → begins bs ≡ Token t n → IsToken bs n
unfolding begins
token_at [] t n e = cc
token_at (b ∷ bs) t n e = token_of b bs t n e

-- bytes that are UTF-8 are a text
pub text_whole : (bs : List ℕ) → IsUtf8 bs → text_of bs ≡ bs
unfolding text_of
text_whole bs u = rw (eq-eqb (utf8_valid_len bs) (length bs) (utf8_valid_len-IsUtf8 bs u))

module _ (text : List ℕ) (at n : ℕ) (u : IsUtf8 text) (is : IsToken (drop at text) n) where
  inside : at + n ≤ length text
  inside = let w = rw length-drop at is.within in omega (arith, w, is.some)

  slice_text : IsUtf8 (take n (drop at text))
  slice_text =
      let first : get_or text at 0 < 128 = rw (get_or-drop, add-zero) at is.first in
      let k : at + (n - 1) ≡ at + n - 1 = omega (arith, is.some) in
      let last : get_or text (at + n - 1) 0 < 128 = rw (get_or-drop, k) at is.last in
      let low : IsCharBoundary text at = IsCharBoundary-before_ascii text at (omega (arith, inside, is.some)) first in
      let high : IsCharBoundary text (at + n - 1 + 1) = IsCharBoundary-after_ascii text (at + n - 1) u (omega (arith, inside, is.some)) last in
      let e : at + n - 1 + 1 - at ≡ n = omega (arith, is.some) in
      rw e at (IsUtf8-between text at (at + n - 1 + 1) u (omega (arith, is.some)) low high)

  said_text : IsUtf8 (string_value (take n (drop at text)))
  said_text =
      let some : 0 < length (take n (drop at text)) = rw (length-take-le n (drop at text) is.within) is.some in
      let first : get_or (take n (drop at text)) 0 0 < 128 = rw (get_or-take n (drop at text) 0 0 is.some) is.first in
      contents_text false (drop 1 (take n (drop at text)))
      (IsUtf8-drop (take n (drop at text)) 1 slice_text (IsCharBoundary-after_ascii (take n (drop at text)) 0 slice_text some first))

pub tokens_are_texts : TokensAreTexts
tokens_are_texts text u k d h =
    let x : Lexeme = get_or (lexemes_of text).lexemes k d in
    let is : IsToken (drop x.at text) x.len = token_at (drop x.at text) x.terminal x.len (tokens_are_read text k d h) in
    (text_whole (slice_of text x) (slice_text text x.at x.len u is), text_whole (string_value (slice_of text x)) (said_text text x.at x.len u is))

-- the bytes of a token of a text, and what they say as a string
pub token_utf8 : (text : List ℕ) (x : Lexeme) → IsUtf8 text → begins (drop x.at text) ≡ Token x.terminal x.len → IsUtf8 (slice_of text x) × IsUtf8 (string_value (slice_of text x))
token_utf8 text x u e =
    let is : IsToken (drop x.at text) x.len = token_at (drop x.at text) x.terminal x.len e in
    (slice_text text x.at x.len u is, said_text text x.at x.len u is)
