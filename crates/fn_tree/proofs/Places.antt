-- The tokens of a text stand apart in it, before the place at which no token begins.
use Rattle.std.proofs.Common.{◌≡◌, ℕ, zero, suc, ◌+◌, ◌-◌, ◌<◌, ◌≤◌, List, [], ◌∷◌, length, arith}
use Rattle.std.specs.Prelude.{Some}
use Rattle.fn_tree.specs.Lexemes.{begins, begin_len, Lexed, put_begin, lexed_from, lexemes_of}
use Rattle.fn_tree.specs.LexemeLaws.{StandApart, TokensStandApart, BadComesAfter}
use Rattle.fn_tree.specs.declared.begin.Begin.{Begin}
use Rattle.fn_tree.specs.declared.begin.Begin.TheVariants.{Gap, Token, Bad}
use Rattle.fn_tree.specs.declared.lexeme.Lexeme.{Lexeme}
use Rattle.fn_tree.proofs.Begins.{Fits, begins_fits}

from_before : (from later to : ℕ) (xs : List Lexeme) → from ≤ later → StandApart later to xs → StandApart from to xs
from_before from later to [] h a = omega arith
from_before from later to (x ∷ xs) h a = (omega arith, a.1, a.2)

-- what is put before tokens that stand apart after it
put_apart : (x : Begin) (at k : ℕ) (after : Lexed) → Fits x k → StandApart (at + begin_len x) (at + k) after.lexemes → StandApart at (at + k) (put_begin x at after).lexemes
put_apart (Gap n) at k after f a = from_before at (at + n) (at + k) after.lexemes (omega arith) a
put_apart (Token t n) at k after f a = (omega arith, f.0, a)
put_apart Bad at k after f a = omega arith

-- the number of bytes to pass after the first
passed_fits : (x : Begin) (k : ℕ) → Fits x (suc k) → begin_len x - 1 ≤ k
passed_fits (Gap n) k f = omega arith
passed_fits (Token t n) k f = omega arith
passed_fits Bad k f = omega arith

-- after a token that has a byte, the place of the next
next_apart : (x : Begin) (at k : ℕ) (after : Lexed) → Fits x (suc k) → StandApart (at + 1 + (begin_len x - 1)) (at + 1 + k) after.lexemes → StandApart at (at + suc k) (put_begin x at after).lexemes
next_apart (Gap n) at k after f a =
    let e : at + 1 + (n - 1) ≡ at + n = omega arith in let g : at + 1 + k ≡ at + suc k = omega arith in
    put_apart (Gap n) at (suc k) after f (rw (e, g) at a)
next_apart (Token t n) at k after f a =
    let e : at + 1 + (n - 1) ≡ at + n = omega arith in let g : at + 1 + k ≡ at + suc k = omega arith in
    put_apart (Token t n) at (suc k) after f (rw (e, g) at a)
next_apart Bad at k after f a = omega arith

apart_from : (passed at : ℕ) (bs : List ℕ) → passed ≤ length bs → StandApart (at + passed) (at + length bs) (lexed_from passed at bs).lexemes
apart_from passed at [] h = omega arith
apart_from (suc passed) at (b ∷ bs) h =
    let e : at + 1 + passed ≡ at + suc passed = omega arith in let g : at + 1 + length bs ≡ at + suc (length bs) = omega arith in
    let a : StandApart (at + 1 + passed) (at + 1 + length bs) (lexed_from passed (at + 1) bs).lexemes = apart_from passed (at + 1) bs (omega arith) in
    rw (e, g) at a
apart_from zero at (b ∷ bs) h =
    let x : Begin = begins (b ∷ bs) in
    let z : at + 0 ≡ at = omega arith in
    rw z (next_apart x at (length bs) (lexed_from (begin_len x - 1) (at + 1) bs) (begins_fits b bs)
    (apart_from (begin_len x - 1) (at + 1) bs (passed_fits x (length bs) (begins_fits b bs))))

pub tokens_stand_apart : TokensStandApart
unfolding lexemes_of
tokens_stand_apart text = let a = apart_from 0 0 text (omega arith) in let z : 0 + length text ≡ length text = omega arith in rw z at a

-- ---- before the first bad place

-- the tokens stand apart from one place up to the bad one, which is before another
abbrev BeforeBad : ℕ → ℕ → ℕ → List Lexeme → Type 0
BeforeBad from bad to xs = StandApart from bad xs × (bad < to)

some_is : (a b : ℕ) → Some a ≡ Some b → a ≡ b
some_is a b e = cc

put_bad : (x : Begin) (at k bad : ℕ) (after : Lexed) → Fits x (suc k) → (put_begin x at after).bad ≡ Some bad
    → (after.bad ≡ Some bad → BeforeBad (at + 1 + (begin_len x - 1)) bad (at + 1 + k) after.lexemes) → BeforeBad at bad (at + suc k) (put_begin x at after).lexemes
put_bad (Gap n) at k bad after f e a =
    let h = a e in let s : at ≤ at + 1 + (n - 1) = omega arith in (from_before at (at + 1 + (n - 1)) bad after.lexemes s h.0, omega (arith, h.1))
put_bad (Token t n) at k bad after f e a =
    let h = a e in let g : at + 1 + (n - 1) ≡ at + n = omega (arith, f.0) in
    ((omega arith, f.0, rw g at h.0), omega (arith, h.1))
put_bad Bad at k bad after f e a = let h : at ≡ bad = some_is at bad e in (omega arith, omega arith)

bad_from : (passed at bad : ℕ) (bs : List ℕ) → passed ≤ length bs → (lexed_from passed at bs).bad ≡ Some bad → BeforeBad (at + passed) bad (at + length bs) (lexed_from passed at bs).lexemes
bad_from passed at bad [] h e = absurd (cc)
bad_from (suc passed) at bad (b ∷ bs) h e =
    let g : at + 1 + passed ≡ at + suc passed = omega arith in
    let a : BeforeBad (at + 1 + passed) bad (at + 1 + length bs) (lexed_from passed (at + 1) bs).lexemes = bad_from passed (at + 1) bad bs (omega arith) e in
    (rw g at a.0, omega (arith, a.1))
bad_from zero at bad (b ∷ bs) h e =
    let x : Begin = begins (b ∷ bs) in
    let z : at + 0 ≡ at = omega arith in
    rw z (put_bad x at (length bs) bad (lexed_from (begin_len x - 1) (at + 1) bs) (begins_fits b bs) e
    (λ k. bad_from (begin_len x - 1) (at + 1) bad bs (passed_fits x (length bs) (begins_fits b bs)) k))

pub bad_comes_after : BadComesAfter
unfolding lexemes_of
bad_comes_after text bad e =
    let a : BeforeBad (0 + 0) bad (0 + length text) (lexed_from 0 0 text).lexemes = bad_from 0 0 bad text (omega arith) e in
    (a.0, omega (arith, a.1))
