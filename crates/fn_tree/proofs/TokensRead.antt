-- Each token of a text is what the text begins with at its place.
use Rattle.std.proofs.Common.{◌≡◌, ℕ, zero, suc, ◌+◌, ◌-◌, ◌≤◌, List, [], ◌∷◌, length, take, drop, Bool, true, false, not, ◌&&◌, ◌||◌, eqb, refl, sym, ◌∙◌, ap, inl, inr, ◌⊎◌, arith}
use Rattle.std.specs.Prelude.{All, nat_eq, nat_le, codes, Option, Some, None}
use Rattle.std.specs.Char.{is_ascii_digit}
use Rattle.std.specs.List.{prefix_len, starts_with}
use Rattle.std.specs.Option.{option_map_or}
use Rattle.std.specs.Str.{bytes_eq}
use Rattle.std.proofs.lemmas.Bool.Decides.{leb_tells}
use Rattle.std.proofs.lemmas.Slice.Eq.{bytes_eq-Decides}
use Rattle.std.proofs.lemmas.List.{drop-drop}
use Rattle.std.proofs.lemmas.List.Elements.{All-cons}
use Rattle.fn_tree.specs.Spellings.{mark_text}
use Rattle.fn_tree.specs.Lexemes.{begins, begins_name, begin_len, Lexed, put_begin, lexed_from, lexemes_of, name_begin, word_of, integer_begin, integer_value, is_integer, greatest_integer, string_begin, string_len, is_blank, comment_begin, mark_of}
use Rattle.fn_tree.specs.LexemeLaws.{TokensAreRead, IntegersFit}
use Rattle.fn_tree.specs.declared.begin.Begin.{Begin}
use Rattle.fn_tree.specs.declared.begin.Begin.TheVariants.{Gap, Token, Bad}
use Rattle.fn_tree.specs.declared.lexeme.Lexeme.{Lexeme}
use Rattle.fn_tree.specs.declared.lexeme.Mark.{Mark}
use Rattle.fn_tree.specs.declared.lexeme.Terminal.{Terminal}
use Rattle.fn_tree.specs.declared.lexeme.Terminal.TheVariants.{Name, Integer, Str, Word as Reserved, Mark as Marked}
use Rattle.fn_tree.specs.declared.lexeme.Word.{Word}
use Rattle.fn_tree.proofs.Begins.{choice_is}

abbrev IsRead : List ℕ → Lexeme → Type 0
IsRead text x = begins (drop x.at text) ≡ Token x.terminal x.len

none_read : (text : List ℕ) → All (IsRead text) []
none_read text k d h = absurd (omega arith)

put_read : (text : List ℕ) (x : Begin) (at : ℕ) (after : Lexed) → begins (drop at text) ≡ x → All (IsRead text) after.lexemes → All (IsRead text) (put_begin x at after).lexemes
put_read text (Gap n) at after e a = a
put_read text (Token t n) at after e a = All-cons (IsRead text) (record { terminal = t; at = at; len = n }) after.lexemes e a
put_read text Bad at after e a = none_read text

rest_of : (text : List ℕ) (at b : ℕ) (bs : List ℕ) → drop at text ≡ b ∷ bs → drop (at + 1) text ≡ bs
rest_of text at b bs e = sym (drop-drop 1 at text) ∙ ap (drop 1) e

all_read : (text : List ℕ) (passed at : ℕ) (bs : List ℕ) → drop at text ≡ bs → All (IsRead text) (lexed_from passed at bs).lexemes
all_read text passed at [] e = none_read text
all_read text (suc passed) at (b ∷ bs) e = all_read text passed (at + 1) bs (rest_of text at b bs e)
all_read text zero at (b ∷ bs) e =
    put_read text (begins (b ∷ bs)) at (lexed_from (begin_len (begins (b ∷ bs)) - 1) (at + 1) bs) (ap begins e)
    (all_read text (begin_len (begins (b ∷ bs)) - 1) (at + 1) bs (rest_of text at b bs e))

pub tokens_are_read : TokensAreRead
unfolding lexemes_of
tokens_are_read text = all_read text 0 0 text refl

-- an integer at the front is no greater than the greatest
abbrev FitsAt : List ℕ → Begin → Type 0
FitsAt bs (Token Integer n) = integer_value (take n bs) ≤ greatest_integer
FitsAt bs _ = Unit {0}

name_no_integer : (bs : List ℕ) (n : ℕ) (w : Option Word) → FitsAt bs (Token (option_map_or Reserved w Name) n)
name_no_integer bs n None = tt
name_no_integer bs n (Some w) = tt

one_of_two : (a b : Bool) → (a || b) ≡ true → (a ≡ true) ⊎ (b ≡ true)
one_of_two true b h = inl refl
one_of_two false b h = inr h

and_right : (a b : Bool) → (a && b) ≡ true → b ≡ true
and_right true b h = h
and_right false b h = cc

pub no_greater : (digits : List ℕ) → is_integer digits ≡ true → integer_value digits ≤ greatest_integer
unfolding integer_value
no_greater digits h = elim (one_of_two (bytes_eq digits (codes "0")) _ h) [
  | inl zeros ↦ let e : digits ≡ codes "0" = (bytes_eq-Decides digits (codes "0")).0 zeros in rw e (omega arith)
  | inr small ↦
      let e : nat_le (integer_value digits) greatest_integer ≡ true = and_right (not (starts_with nat_eq digits (codes "0"))) _ small in
      elim (leb_tells (integer_value digits) greatest_integer) [ inl t ↦ t.1 | inr t ↦ absurd (let f = rw t.0 at e in cc) ]
]

digits_fit : (bs : List ℕ) → FitsAt bs (integer_begin bs)
unfolding integer_begin
digits_fit bs =
    let n : ℕ = prefix_len is_ascii_digit bs in
    choice_is (FitsAt bs) (is_integer (take n bs)) (Token Integer n) Bad (λ e. no_greater (take n bs) e) (λ e. tt)

string_no_integer : (bs : List ℕ) (n : Option ℕ) → FitsAt bs (option_map_or (λ n. Token Str (n + 1)) n Bad)
string_no_integer bs None = tt
string_no_integer bs (Some n) = tt

mark_no_integer : (bs : List ℕ) (m : Option Mark) → FitsAt bs (option_map_or (λ m. Token (Marked m) (length (mark_text m))) m Bad)
mark_no_integer bs None = tt
mark_no_integer bs (Some m) = tt

begins_fit_integers : (bs : List ℕ) → FitsAt bs (begins bs)
unfolding begins name_begin string_begin comment_begin
begins_fit_integers [] = tt
begins_fit_integers (b ∷ bs) =
    let P : Begin → Type 0 = FitsAt (b ∷ bs) in
    choice_is P (begins_name b) _ _ (λ e. name_no_integer (b ∷ bs) _ (word_of _)) (λ n1.
    choice_is P (is_ascii_digit b) _ _ (λ e. digits_fit (b ∷ bs)) (λ n2.
    choice_is P (eqb b 34) _ _ (λ e. string_no_integer (b ∷ bs) (string_len false bs)) (λ n3.
    choice_is P (is_blank b) (Gap 1) _ (λ e. tt) (λ n4.
    choice_is P (starts_with nat_eq (b ∷ bs) (codes "//")) _ _ (λ e. tt) (λ n5. mark_no_integer (b ∷ bs) (mark_of (b ∷ bs)))))))

integer_fits_at : (bs : List ℕ) (t : Terminal) (n : ℕ) → begins bs ≡ Token t n → t ≡ Integer → integer_value (take n bs) ≤ greatest_integer
integer_fits_at bs t n e i = let a = begins_fit_integers bs in let b = rw e at a in rw i at b

pub integers_fit : IntegersFit
integers_fit text k d h i = integer_fits_at (drop _ text) _ _ (tokens_are_read text k d h) i
