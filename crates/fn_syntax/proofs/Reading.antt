-- How far the tokens of a text have been read.
use Rattle.std.proofs.Common.{◌≡◌, ℕ, zero, suc, ◌+◌, ◌-◌, ◌<◌, ◌≤◌, List, [], ◌∷◌, ◌++◌, length, take, drop, add-zero, refl, sym, ◌∙◌, ap, arith}
use Rattle.std.proofs.Math.Seq.{take-length}
use Rattle.std.proofs.lemmas.List.{drop-drop, length-drop, append_assoc}
use Rattle.fn_tree.specs.Lexemes.{begins, begin_len, Lexed, put_begin, lexed_from, lexemes_of}
use Rattle.fn_tree.specs.declared.begin.Begin.{Begin}
use Rattle.fn_tree.specs.declared.begin.Begin.TheVariants.{Gap, Token}
use Rattle.fn_tree.specs.declared.lexeme.Lexeme.{Lexeme}
use Rattle.fn_tree.specs.declared.lexeme.Terminal.{Terminal}
use Rattle.fn_tree.proofs.Begins.{Fits, begins_fits}

-- a range of a text up to its end
rest_whole : (text : List ℕ) (at : ℕ) → take (length text - at) (drop at text) ≡ drop at text
rest_whole text at = rw (← length-drop at text) (take-length (drop at text))

pub begun_at : (text : List ℕ) (at : ℕ) (x y : Begin) → x ≡ begins (take (length text - at) (drop at text)) → x ≡ y → y ≡ begins (drop at text)
begun_at text at x y e f = sym f ∙ e ∙ ap begins (rest_whole text at)

-- tokens before what is read after them
abbrev after : List Lexeme → Lexed → Lexed
after read l = record { lexemes = read ++ l.lexemes; bad = l.bad }

-- the tokens before a place, and the bytes from it on
pub record IsReadTo (text : List ℕ) (at : ℕ) (read : List Lexeme) : Type 0 where
  pub within : at ≤ length text
  pub same : lexemes_of text ≡ after read (lexed_from 0 at (drop at text))

pub nothing_read : (text : List ℕ) → IsReadTo text 0 []
unfolding lexemes_of
nothing_read text = record { within = omega arith; same = refl }

-- bytes that are passed over
passed_over : (n at : ℕ) (bs : List ℕ) → lexed_from n at bs ≡ lexed_from 0 (at + n) (drop n bs)
passed_over zero at bs = rw add-zero
passed_over (suc n) at [] = refl
passed_over (suc n) at (b ∷ bs) = let e : at + suc n ≡ at + 1 + n = omega arith in rw e (passed_over n (at + 1) bs)

-- what is read of some bytes, by what they begin with
first_read : (at : ℕ) (bs : List ℕ) (x : Begin) → 0 < length bs → x ≡ begins bs → 0 < begin_len x → lexed_from 0 at bs ≡ put_begin x at (lexed_from 0 (at + begin_len x) (drop (begin_len x) bs))
first_read at [] x h e some = absurd (omega arith)
first_read at (b ∷ bs) x h e some =
    let f : begins (b ∷ bs) ≡ x = sym e in
    let k : suc (begin_len x - 1) ≡ begin_len x = omega arith in
    let p : lexed_from (suc (begin_len x - 1)) at (b ∷ bs) ≡ lexed_from 0 (at + suc (begin_len x - 1)) (drop (suc (begin_len x - 1)) (b ∷ bs)) = passed_over (suc (begin_len x - 1)) at (b ∷ bs) in
    let q = rw k at p in
    rw f (ap (put_begin x at) q)

-- and of a text from a place on
read_at : (text : List ℕ) (at : ℕ) (x : Begin) → at < length text → x ≡ begins (drop at text) → 0 < begin_len x
    → lexed_from 0 at (drop at text) ≡ put_begin x at (lexed_from 0 (at + begin_len x) (drop (at + begin_len x) text))
read_at text at x h e some =
    rw (← drop-drop (begin_len x) at text) (first_read at (drop at text) x (rw length-drop (omega arith)) e some)

fits_first : (bs : List ℕ) (x : Begin) → 0 < length bs → x ≡ begins bs → Fits x (length bs)
fits_first [] x h e = absurd (omega arith)
fits_first (b ∷ bs) x h e = rw e (begins_fits b bs)

pub fits_at : (text : List ℕ) (at : ℕ) (x : Begin) → at < length text → x ≡ begins (drop at text) → Fits x (length text - at)
fits_at text at x h e = let f = fits_first (drop at text) x (rw length-drop (omega arith)) e in rw length-drop at f

-- after a gap
pub gap_passed : (text : List ℕ) (at n : ℕ) (read : List Lexeme) → IsReadTo text at read → at < length text → Gap n ≡ begins (drop at text) → IsReadTo text (at + n) read
gap_passed text at n read r h e =
    let f : (0 < n) × (n ≤ length text - at) = fits_at text at (Gap n) h e in
    record { within = omega arith; same = r.same ∙ ap (after read) (read_at text at (Gap n) h e f.0) }

-- after a token
pub token_read : (text : List ℕ) (at n : ℕ) (t : Terminal) (read : List Lexeme) → IsReadTo text at read → at < length text → Token t n ≡ begins (drop at text)
    → IsReadTo text (at + n) (read ++ record { terminal = t; at = at; len = n } ∷ [])
token_read text at n t read r h e =
    let f : (0 < n) × (n ≤ length text - at) = fits_at text at (Token t n) h e in
    record { within = omega arith; same = rw append_assoc (r.same ∙ ap (after read) (read_at text at (Token t n) h e f.0)) }
