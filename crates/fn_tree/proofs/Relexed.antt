-- Tokens that are laid out, each with a blank behind it, are read again.
use Rattle.std.proofs.Common.{◌≡◌, ℕ, suc, ◌+◌, ◌-◌, ◌≤◌, List, [], ◌∷◌, ◌++◌, length, take, drop, Bool, true, false, refl, sym, ◌∙◌, ap, subst, inl, inr, arith, eqb}
use Rattle.std.specs.Prelude.{nat_eq, codes, Option, Some, None, if◌then◌else◌}
use Rattle.std.specs.Char.{is_ascii_digit}
use Rattle.std.specs.List.{starts_with}
use Rattle.std.specs.Option.{option_map_or}
use Rattle.std.specs.Str.Lossy.{utf8_valid_len}
use Rattle.std.proofs.lemmas.List.{drop-drop, length-take}
use Rattle.fn_tree.specs.Canonical.{quoted}
use Rattle.fn_tree.specs.Spellings.{mark_text}
use Rattle.fn_tree.specs.SyntaxTree.{string}
use Rattle.fn_tree.specs.LexemeValues.{slice_of, text_of, string_value}
use Rattle.fn_tree.specs.Lexemes.{begins, begins_name, put_begin, lexed_from, name_begin, word_of, integer_begin, string_begin, string_len, is_blank, comment_begin, mark_of}
use Rattle.fn_tree.specs.ParseTrees.{said_as, literal_as}
use Rattle.fn_tree.specs.declared.begin.Begin.{Begin}
use Rattle.fn_tree.specs.declared.begin.Begin.TheVariants.{Gap, Token, Bad}
use Rattle.fn_tree.specs.declared.lexeme.Lexeme.{Lexeme}
use Rattle.fn_tree.specs.declared.lexeme.Mark.{Mark}
use Rattle.fn_tree.specs.declared.lexeme.Terminal.{Terminal}
use Rattle.fn_tree.specs.declared.lexeme.Terminal.TheVariants.{Name, Integer, Str, Word as Reserved, Mark as Marked}
use Rattle.fn_tree.specs.declared.lexeme.Word.{Word}
use Rattle.fn_tree.proofs.Again.{IsGap, read_again}
use Rattle.fn_tree.proofs.Alike.{Same, AllSame}
use Rattle.fn_tree.proofs.Alike.AllSame.{no_more, one_more}
use Rattle.fn_tree.proofs.Begins.{Fits, begins_fits, choice_is}
use Rattle.fn_tree.proofs.StringsAgain.{AllSayable, value_again, string_again, said_sayable}

-- the bytes of a token in the canonical text
abbrev pub spelled_as : Terminal → List ℕ → List ℕ
spelled_as Str bs = quoted (text_of (string_value bs))
spelled_as t bs = bs

abbrev pub spelled : List ℕ → Lexeme → List ℕ
spelled s c = spelled_as c.terminal (slice_of s c)

-- ---- what is said

nothing_either : (test : Bool) → ◌≡◌ {A = List ℕ} (if test then [] else []) []
nothing_either true = refl
nothing_either false = refl

no_text : text_of [] ≡ []
unfolding text_of
no_text = nothing_either _

text_choice : (test : Bool) (w : List ℕ) → text_of w ≡ (if test then w else []) → text_of (if test then w else []) ≡ (if test then w else [])
text_choice true w e = e
text_choice false w e = no_text

text_idem : (w : List ℕ) → text_of (text_of w) ≡ text_of w
unfolding text_of
text_idem w = text_choice (eqb (utf8_valid_len w) (length w)) w refl

string_text_again : (bs : List ℕ) → text_of (string_value (spelled_as Str bs)) ≡ text_of (string_value bs)
string_text_again bs = rw (value_again (text_of (string_value bs))) (text_idem (string_value bs))

said_again : (t : Terminal) (bs : List ℕ) → said_as t (spelled_as t bs) ≡ said_as t bs
said_again Str bs = string_text_again bs
said_again _ bs = refl

literal_again : (t : Terminal) (bs : List ℕ) → literal_as t (spelled_as t bs) ≡ literal_as t bs
literal_again Str bs = ap string (string_text_again bs)
literal_again _ bs = refl

take_front : (xs ys : List ℕ) → take (length xs) (xs ++ ys) ≡ xs
take_front [] ys = refl
take_front (x ∷ xs) ys = ap (λ (l : List ℕ). x ∷ l) (take_front xs ys)

-- a token that stands as it is spelled is the same
same_token : (s z : List ℕ) (c : Lexeme) (at : ℕ) (more : List ℕ) → drop at z ≡ spelled s c ++ more → Same s z c (record { terminal = c.terminal; at = at; len = length (spelled s c) })
same_token s z c at more e =
    let slice : take (length (spelled s c)) (drop at z) ≡ spelled s c = ap (take (length (spelled s c))) e ∙ take_front (spelled s c) more in
    record {
      terminal = refl;
      text = sym (ap (said_as c.terminal) slice ∙ said_again c.terminal (slice_of s c));
      literal = sym (ap (literal_as c.terminal) slice ∙ literal_again c.terminal (slice_of s c));
    }

-- ---- what begins again

-- a token is read again as it is spelled, before a blank
abbrev pub IsGood : List ℕ → Lexeme → Type 0
IsGood s c = (g : ℕ) (more : List ℕ) → IsGap g → begins (spelled s c ++ g ∷ more) ≡ Token c.terminal (length (spelled s c))

abbrev pub AllGood : List ℕ → List Lexeme → Type 0
AllGood s [] = Unit {0}
AllGood s (c ∷ cs) = IsGood s c × AllGood s cs

-- the bytes of a string behind its quote
abbrev AsString : List ℕ → ℕ → Begin → Type 0
AsString bs n x = x ≡ Token Str n → (k : ℕ) × (string_len false bs ≡ Some k) × (n ≡ suc k)

name_no_string : (bs : List ℕ) (n k : ℕ) (w : Option Word) → AsString bs n (Token (option_map_or Reserved w Name) k)
name_no_string bs n k None e = absurd (cc)
name_no_string bs n k (Some w) e = absurd (cc)

integer_no_string : (bs : List ℕ) (n k : ℕ) (test : Bool) → AsString bs n (if test then Token Integer k else Bad)
integer_no_string bs n k true e = absurd (cc)
integer_no_string bs n k false e = absurd (cc)

mark_no_string : (bs : List ℕ) (n : ℕ) (m : Option Mark) → AsString bs n (option_map_or (λ m. Token (Marked m) (length (mark_text m))) m Bad)
mark_no_string bs n None e = absurd (cc)
mark_no_string bs n (Some m) e = absurd (cc)

string_is : (bs : List ℕ) (n : ℕ) (x : Option ℕ) → string_len false bs ≡ x → AsString bs n (option_map_or (λ n. Token Str (n + 1)) x Bad)
string_is bs n None f e = absurd (cc)
string_is bs n (Some k) f e = (k, f, let h : k + 1 ≡ n = cc in omega arith)

gap_no_string : (bs : List ℕ) (n k : ℕ) → AsString bs n (Gap k)
gap_no_string bs n k e = absurd (cc)

as_string : (b : ℕ) (bs : List ℕ) (n : ℕ) → AsString bs n (begins (b ∷ bs))
unfolding begins name_begin integer_begin string_begin comment_begin
as_string b bs n =
    let P : Begin → Type 0 = AsString bs n in
    choice_is P (begins_name b) _ _ (λ e. name_no_string bs n _ (word_of _)) (λ n1.
    choice_is P (is_ascii_digit b) _ _ (λ e. integer_no_string bs n _ _) (λ n2.
    choice_is P (eqb b 34) _ _ (λ e. string_is bs n (string_len false bs) refl) (λ n3.
    choice_is P (is_blank b) (Gap 1) _ (λ e. gap_no_string bs n 1) (λ n4.
    choice_is P (starts_with nat_eq (b ∷ bs) (codes "//")) _ _ (λ e. gap_no_string bs n _) (λ n5. mark_no_string bs n (mark_of (b ∷ bs)))))))

nothing_begins : (t : Terminal) (n : ℕ) → begins [] ≡ Token t n → ⊥
unfolding begins
nothing_begins t n e = cc

string_sayable : (bs : List ℕ) (n : ℕ) → begins bs ≡ Token Str n → AllSayable (string_value (take n bs))
string_sayable [] n e = absurd (nothing_begins Str n e)
string_sayable (b ∷ bs) n e = let x = as_string b bs n e in rw x.2 (said_sayable false bs x.0 x.1)

token_fits : (x : Begin) (t : Terminal) (n k : ℕ) → Fits x k → x ≡ Token t n → n ≤ k
token_fits x t n k f e = let h = rw e at f in h.1

token_within : (bs : List ℕ) (t : Terminal) (n : ℕ) → begins bs ≡ Token t n → n ≤ length bs
token_within [] t n e = absurd (nothing_begins t n e)
token_within (b ∷ bs) t n e = token_fits (begins (b ∷ bs)) t n (length (b ∷ bs)) (begins_fits b bs) e

plain_good : (bs : List ℕ) (t : Terminal) (n : ℕ) → begins bs ≡ Token t n → (t ≡ Str → ⊥) → (g : ℕ) (more : List ℕ) → IsGap g → begins (take n bs ++ g ∷ more) ≡ Token t (length (take n bs))
plain_good bs t n e other g more gap =
    let within = token_within bs t n e in
    let long : n ≡ length (take n bs) = simp length-take (omega arith) in
    read_again bs g more gap t n other e ∙ ap (Token t) long

good_as : (bs : List ℕ) (t : Terminal) (n : ℕ) → begins bs ≡ Token t n → text_of (string_value (take n bs)) ≡ string_value (take n bs)
    → (g : ℕ) (more : List ℕ) → IsGap g → begins (spelled_as t (take n bs) ++ g ∷ more) ≡ Token t (length (spelled_as t (take n bs)))
good_as bs Str n e u = λ g more gap. string_again (text_of (string_value (take n bs))) (g ∷ more) (rw u (string_sayable bs n e))
good_as bs Name n e u = plain_good bs Name n e (λ f. cc)
good_as bs Integer n e u = plain_good bs Integer n e (λ f. cc)
good_as bs (Reserved w) n e u = plain_good bs (Reserved w) n e (λ f. cc)
good_as bs (Marked m) n e u = plain_good bs (Marked m) n e (λ f. cc)

-- a token of a text is read again
pub is_good : (s : List ℕ) (c : Lexeme) → begins (drop c.at s) ≡ Token c.terminal c.len → text_of (string_value (slice_of s c)) ≡ string_value (slice_of s c) → IsGood s c
is_good s c e u = good_as (drop c.at s) c.terminal c.len e u

-- ---- the whole text

-- tokens laid out in a text, each with a blank behind it
pub data LaidOut (s : List ℕ) : List Lexeme → List ℕ → Type 0 where
  nothing_laid : LaidOut s [] []
  laid : {c : Lexeme} {cs : List Lexeme} {text : List ℕ} (g : ℕ) → IsGap g → LaidOut s cs text → LaidOut s (c ∷ cs) (spelled s c ++ g ∷ text)

skip : (xs more : List ℕ) (at : ℕ) → lexed_from (length xs) at (xs ++ more) ≡ lexed_from 0 (at + length xs) more
skip [] more at = ap (λ k. lexed_from 0 k more) (omega arith)
skip (x ∷ xs) more at = skip xs more (at + 1) ∙ ap (λ k. lexed_from 0 k more) (omega arith)

space_skipped : (at : ℕ) (more : List ℕ) → lexed_from 0 at (32 ∷ more) ≡ lexed_from 0 (at + 1) more
unfolding begins
space_skipped at more = refl

line_feed_skipped : (at : ℕ) (more : List ℕ) → lexed_from 0 at (10 ∷ more) ≡ lexed_from 0 (at + 1) more
unfolding begins
line_feed_skipped at more = refl

gap_skipped : (g at : ℕ) (more : List ℕ) → IsGap g → lexed_from 0 at (g ∷ more) ≡ lexed_from 0 (at + 1) more
gap_skipped g at more (inl e) = subst (λ x. lexed_from 0 at (x ∷ more) ≡ lexed_from 0 (at + 1) more) (sym e) (space_skipped at more)
gap_skipped g at more (inr e) = subst (λ x. lexed_from 0 at (x ∷ more) ≡ lexed_from 0 (at + 1) more) (sym e) (line_feed_skipped at more)

gap_begins : (g : ℕ) (more : List ℕ) → IsGap g → begins (g ∷ more) ≡ Gap 1
unfolding begins
gap_begins g more (inl e) = subst (λ x. begins (x ∷ more) ≡ Gap 1) (sym e) refl
gap_begins g more (inr e) = subst (λ x. begins (x ∷ more) ≡ Gap 1) (sym e) refl

-- the tokens from a token on
token_read : (xs : List ℕ) (g : ℕ) (more : List ℕ) (at : ℕ) (t : Terminal) → IsGap g → begins (xs ++ g ∷ more) ≡ Token t (length xs)
    → lexed_from 0 at (xs ++ g ∷ more) ≡ put_begin (Token t (length xs)) at (lexed_from 0 (at + length xs + 1) more)
token_read [] g more at t gap e = absurd (let f = sym (gap_begins g more gap) ∙ e in cc)
token_read (x ∷ xs) g more at t gap e =
    let k : suc (length xs) - 1 ≡ length xs = omega arith in
    let m : at + 1 + length xs + 1 ≡ at + suc (length xs) + 1 = omega arith in
    rw (e, k) (ap (put_begin (Token t (suc (length xs))) at) (skip xs (g ∷ more) (at + 1) ∙ gap_skipped g (at + 1 + length xs) more gap ∙ ap (λ i. lexed_from 0 i more) m))

drop_front : (xs ys : List ℕ) → drop (length xs) (xs ++ ys) ≡ ys
drop_front [] ys = refl
drop_front (x ∷ xs) ys = drop_front xs ys

rest_after : (z xs : List ℕ) (g : ℕ) (more : List ℕ) (at : ℕ) → drop at z ≡ xs ++ g ∷ more → drop (at + length xs + 1) z ≡ more
rest_after z xs g more at e = sym (drop-drop 1 (at + length xs) z) ∙ ap (drop 1) (sym (drop-drop (length xs) at z) ∙ ap (drop (length xs)) e ∙ drop_front xs (g ∷ more))

-- what is laid out is read again, token by token
pub relexed : {s : List ℕ} {cs : List Lexeme} {text : List ℕ} (z : List ℕ) (at : ℕ) → LaidOut s cs text → AllGood s cs → drop at z ≡ text
    → AllSame s z cs (lexed_from 0 at text).lexemes × ((lexed_from 0 at text).bad ≡ None)
relexed z at nothing_laid good e = (no_more, refl)
relexed {s = s} z at (laid {c = c} {text = text} g gap l) good e =
    let after = relexed z (at + length (spelled s c) + 1) l good.1 (rest_after z (spelled s c) g text at e) in
    rw (token_read (spelled s c) g text at c.terminal gap (good.0 g text gap)) (one_more (same_token s z c at (g ∷ text) e) after.0, after.1)
