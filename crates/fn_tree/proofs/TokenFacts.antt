-- What the bytes of a token are: the spelling of a word or a mark, the digits of a number, and no mark in a name.
use Rattle.std.proofs.Common.{◌≡◌, ℕ, zero, suc, ◌+◌, ◌<◌, ◌≤◌, List, [], ◌∷◌, length, take, drop, get_or, Bool, true, false, not, ◌&&◌, ◌||◌, refl, sym, ◌∙◌, ap, subst, ◌⊎◌, inl, inr, arith, eqb}
use Rattle.std.specs.Prelude.{nat_eq, codes, Option, Some, None}
use Rattle.std.specs.Char.{is_ascii_digit}
use Rattle.std.specs.Fmt.{decimal}
use Rattle.std.specs.Int.{IsInRange}
use Rattle.std.specs.List.{flat_map, prefix_len, starts_with}
use Rattle.std.specs.Option.{option_map_or}
use Rattle.std.specs.Str.{bytes_eq}
use Rattle.std.specs.Str.Parse.{AllDigits}
use Rattle.std.proofs.lemmas.Bool.Decides.{eqb_tells, nat_tests}
use Rattle.std.proofs.lemmas.Fmt.{decimal-digits_value}
use Rattle.std.proofs.lemmas.Slice.Eq.{bytes_eq-Decides}
use Rattle.std.proofs.lemmas.Str.Parse.{IsNumeralModel, numerals_by_fold, tells_digits}
use Rattle.fn_tree.specs.Canonical.{apart}
use Rattle.fn_tree.specs.LexemeValues.{slice_of, text_of, number_of}
use Rattle.fn_tree.specs.Lexemes.{begins, begins_name, goes_on_name, name_begin, word_of, integer_begin, integer_value, value_after, greatest_integer, is_integer, string_begin, string_len, is_blank, comment_begin, mark_of}
use Rattle.fn_tree.specs.ParseTrees.{said_as}
use Rattle.fn_tree.specs.Spellings.{word_text, mark_text, all_words}
use Rattle.fn_tree.specs.Terminals.{is_part}
use Rattle.fn_tree.specs.declared.begin.Begin.{Begin}
use Rattle.fn_tree.specs.declared.begin.Begin.TheVariants.{Gap, Token, Bad}
use Rattle.fn_tree.specs.declared.lexeme.Lexeme.{Lexeme}
use Rattle.fn_tree.specs.declared.lexeme.Mark.{Mark}
use Rattle.fn_tree.specs.declared.lexeme.Terminal.{Terminal}
use Rattle.fn_tree.specs.declared.lexeme.Terminal.TheVariants.{Name, Integer, Str, Word as Reserved, Mark as Marked}
use Rattle.fn_tree.specs.declared.lexeme.Word.{Word}
use Rattle.fn_tree.proofs.Again.{mark_taken}
use Rattle.fn_tree.proofs.Begins.{choice_is, find_passes, run_some}
use Rattle.fn_tree.proofs.DeclarationTexts.{IsPart}
use Rattle.fn_tree.proofs.Relexed.{spelled_as, spelled}
use Rattle.fn_tree.proofs.TokensRead.{no_greater}
use Rattle.fn_tree.proofs.TreeTexts.{written_as, written}

-- no byte is a mark of a path
abbrev NoMarks : List ℕ → Type 0
NoMarks bs = flat_map apart bs ≡ bs

-- what the bytes of a token at the front are
abbrev FactOf : List ℕ → Begin → Type 0
FactOf bs (Token (Reserved w) n) = (word_text w ≡ take n bs) × NoMarks (take n bs)
FactOf bs (Token (Marked m) n) = mark_text m ≡ take n bs
FactOf bs (Token Name n) = NoMarks (take n bs)
FactOf bs (Token Integer n) = decimal (number_of (take n bs)) ≡ take n bs
FactOf bs _ = Unit {0}

-- ---- names and words

name_byte : (b : ℕ) → goes_on_name b ≡ true → apart b ≡ b ∷ []
name_byte b h = elim (eqb_tells b 47) [
  | inl t ↦ absurd (let f = rw t.1 at h in cc)
  | inr t ↦ elim (eqb_tells b 58) [
    | inl u ↦ absurd (let f = rw u.1 at h in cc)
    | inr u ↦ rw (t.0, u.0) refl
  ]
]

run_more : (b : ℕ) (bs : List ℕ) (x : Bool) → goes_on_name b ≡ x → NoMarks (take (prefix_len goes_on_name bs) bs) → NoMarks (take (prefix_len goes_on_name (b ∷ bs)) (b ∷ bs))
run_more b bs true e ih = let k : 1 + prefix_len goes_on_name bs ≡ suc (prefix_len goes_on_name bs) = omega arith in rw (e, k, name_byte b e, ih)
run_more b bs false e ih = rw e refl

run_no_marks : (bs : List ℕ) → NoMarks (take (prefix_len goes_on_name bs) bs)
run_no_marks [] = refl
run_no_marks (b ∷ bs) = run_more b bs (goes_on_name b) refl (run_no_marks bs)

word_found : (bs ws : List ℕ) (k : ℕ) (x : Option Word) → take k bs ≡ ws → word_of ws ≡ x → NoMarks ws → FactOf bs (Token (option_map_or Reserved x Name) k)
unfolding word_of
word_found bs ws k None t e m = rw t m
word_found bs ws k (Some w) t e m = rw t ((bytes_eq-Decides (word_text w) ws).0 (find_passes (λ v. bytes_eq (word_text v) ws) all_words w e), m)

name_fact : (bs : List ℕ) → FactOf bs (name_begin bs)
unfolding name_begin
name_fact bs = word_found bs (take (prefix_len goes_on_name bs) bs) (prefix_len goes_on_name bs) _ refl refl (run_no_marks bs)

-- ---- integers

own : IsNumeralModel (AllDigits 10) (value_after 0)
own = numerals_by_fold (AllDigits 10) tells_digits value_after (record { empty = λ n. refl; more = λ n c cs h. refl })

digits_more : (b : ℕ) (bs : List ℕ) (x : Bool) → is_ascii_digit b ≡ x → AllDigits 10 (take (prefix_len is_ascii_digit bs) bs) → AllDigits 10 (take (prefix_len is_ascii_digit (b ∷ bs)) (b ∷ bs))
digits_more b bs true e ih =
    let k : 1 + prefix_len is_ascii_digit bs ≡ suc (prefix_len is_ascii_digit bs) = omega arith in
    let range : IsInRange 48 57 b = grind (arith, nat_tests) in
    rw (e, k) (tells_digits.more b (take (prefix_len is_ascii_digit bs) bs) range ih)
digits_more b bs false e ih = rw e tt

all_digits : (bs : List ℕ) → AllDigits 10 (take (prefix_len is_ascii_digit bs) bs)
all_digits [] = tt
all_digits (b ∷ bs) = digits_more b bs (is_ascii_digit b) refl (all_digits bs)

one_of_two : (a b : Bool) → (a || b) ≡ true → (a ≡ true) ⊎ (b ≡ true)
one_of_two true b h = inl refl
one_of_two false b h = inr h

and_left : (a b : Bool) → (a && b) ≡ true → a ≡ true
and_left true b h = refl
and_left false b h = cc

-- an integer is `0` or begins otherwise
no_zero_first : (ds : List ℕ) → is_integer ds ≡ true → get_or ds 0 0 ≡ 48 → length ds ≡ 1
no_zero_first [] h z = absurd (omega arith)
no_zero_first (d ∷ ds) h z = elim (one_of_two (bytes_eq (d ∷ ds) (codes "0")) _ h) [
  | inl zero_alone ↦ ap length ((bytes_eq-Decides (d ∷ ds) (codes "0")).0 zero_alone)
  | inr others ↦ absurd (let e = and_left (not (starts_with nat_eq (d ∷ ds) (codes "0"))) _ others in let f = rw z at e in cc)
]

digits_fact : (ds : List ℕ) → AllDigits 10 ds → 0 < length ds → is_integer ds ≡ true → decimal (number_of ds) ≡ ds
unfolding integer_value
digits_fact ds all some h =
    let small : value_after 0 ds ≤ greatest_integer = no_greater ds h in
    let held : number_of ds ≡ value_after 0 ds = omega arith in
    rw held (decimal-digits_value own ds all some (no_zero_first ds h) (omega arith))

some_taken : (n b : ℕ) (bs : List ℕ) → 0 < n → 0 < length (take n (b ∷ bs))
some_taken zero b bs h = absurd (omega arith)
some_taken (suc n) b bs h = omega arith

integer_fact : (b : ℕ) (bs : List ℕ) → is_ascii_digit b ≡ true → FactOf (b ∷ bs) (integer_begin (b ∷ bs))
unfolding integer_begin
integer_fact b bs h =
    let n : ℕ = prefix_len is_ascii_digit (b ∷ bs) in
    choice_is (FactOf (b ∷ bs)) (is_integer (take n (b ∷ bs))) (Token Integer n) Bad
    (λ e. digits_fact (take n (b ∷ bs)) (all_digits (b ∷ bs)) (some_taken n b bs (run_some is_ascii_digit b bs h)) e) (λ e. tt)

-- ---- any token

string_fact : (bs : List ℕ) (x : Option ℕ) → FactOf bs (option_map_or (λ n. Token Str (n + 1)) x Bad)
string_fact bs None = tt
string_fact bs (Some n) = tt

mark_fact : (bs : List ℕ) (x : Option Mark) → mark_of bs ≡ x → FactOf bs (option_map_or (λ m. Token (Marked m) (length (mark_text m))) x Bad)
mark_fact bs None e = tt
mark_fact bs (Some m) e = mark_taken bs m e

begins_fact : (bs : List ℕ) → FactOf bs (begins bs)
unfolding begins string_begin comment_begin
begins_fact [] = tt
begins_fact (b ∷ bs) =
    let P : Begin → Type 0 = FactOf (b ∷ bs) in
    choice_is P (begins_name b) _ _ (λ e. name_fact (b ∷ bs)) (λ n1.
    choice_is P (is_ascii_digit b) _ _ (integer_fact b bs) (λ n2.
    choice_is P (eqb b 34) _ _ (λ e. string_fact (b ∷ bs) (string_len false bs)) (λ n3.
    choice_is P (is_blank b) (Gap 1) _ (λ e. tt) (λ n4.
    choice_is P (starts_with nat_eq (b ∷ bs) (codes "//")) _ _ (λ e. tt) (λ n5. mark_fact (b ∷ bs) (mark_of (b ∷ bs)) refl)))))

fact_at : (bs : List ℕ) (t : Terminal) (n : ℕ) → begins bs ≡ Token t n → FactOf bs (Token t n)
fact_at bs t n e = subst (FactOf bs) e (begins_fact bs)

written_spelled : (t : Terminal) (bs : List ℕ) (n : ℕ) → FactOf bs (Token t n) → text_of (take n bs) ≡ take n bs → written_as t (take n bs) ≡ spelled_as t (take n bs)
written_spelled Name bs n f u = u
written_spelled Integer bs n f u = f
written_spelled Str bs n f u = refl
written_spelled (Reserved w) bs n f u = f.0
written_spelled (Marked m) bs n f u = f

part_written : (t : Terminal) (bs : List ℕ) (n : ℕ) → FactOf bs (Token t n) → text_of (take n bs) ≡ take n bs → is_part t ≡ true → flat_map apart (said_as t (take n bs)) ≡ written_as t (take n bs)
part_written Name bs n f u h = rw (u, f) refl
part_written (Reserved w) bs n f u h = rw u (f.1 ∙ sym f.0)
part_written Integer bs n f u h = absurd (cc)
part_written Str bs n f u h = absurd (cc)
part_written (Marked m) bs n f u h = absurd (cc)

-- the canonical text of a token of a text is how it is spelled
pub is_written : (s : List ℕ) (c : Lexeme) → begins (drop c.at s) ≡ Token c.terminal c.len → text_of (slice_of s c) ≡ slice_of s c → written s c ≡ spelled s c
is_written s c e u = written_spelled c.terminal (drop c.at s) c.len (fact_at (drop c.at s) c.terminal c.len e) u

-- what a part of a path says is how it is written
pub is_a_part : (s : List ℕ) (c : Lexeme) → begins (drop c.at s) ≡ Token c.terminal c.len → text_of (slice_of s c) ≡ slice_of s c → IsPart s c
is_a_part s c e u h = part_written c.terminal (drop c.at s) c.len (fact_at (drop c.at s) c.terminal c.len e) u h
