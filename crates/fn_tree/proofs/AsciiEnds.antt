-- Each token begins and ends with an ASCII byte.
use Rattle.std.proofs.Common.{◌≡◌, ℕ, suc, ◌+◌, ◌-◌, ◌<◌, List, [], ◌∷◌, length, take, get_or, Bool, true, false, eqb, refl, sym, ap, ◌∙◌, inl, inr, arith, lit<}
use Rattle.std.specs.Prelude.{nat_eq, nat_lt, codes, Option, Some, None, if◌then◌else◌}
use Rattle.std.specs.Char.{is_ascii_digit}
use Rattle.std.specs.List.{prefix_len, starts_with}
use Rattle.std.specs.Option.{option_map, option_map_or}
use Rattle.std.proofs.lemmas.Bool.Decides.{nat_tests, eqb_tells}
use Rattle.std.proofs.lemmas.List.{get_or-take}
use Rattle.std.proofs.lemmas.List.Sums.{prefix_len_passes}
use Rattle.std.proofs.lemmas.Slice.Eq.{bytes_eq-Decides}
use Rattle.fn_tree.specs.Spellings.{mark_text, marks_longest_first}
use Rattle.fn_tree.specs.Lexemes.{begins_name, goes_on_name, name_begin, integer_begin, is_integer, string_len, string_begin, mark_of, mark_begin, is_blank, comment_begin, begins, is_escape}
use Rattle.fn_tree.specs.declared.begin.Begin.{Begin}
use Rattle.fn_tree.specs.declared.begin.Begin.TheVariants.{Gap, Token, Bad}
use Rattle.fn_tree.specs.declared.lexeme.Mark.{Mark}
use Rattle.fn_tree.specs.declared.lexeme.Mark.TheVariants.{OpenBrace}
use Rattle.fn_tree.specs.declared.lexeme.Terminal.TheVariants.{Integer, Str, Mark as Marked}
use Rattle.fn_tree.proofs.Begins.{choice_is, run_some, begins_name_goes_on, find_passes, mark_some}

-- the first byte and the last of a token are ASCII
abbrev pub EndsInAscii : List ℕ → Begin → Type 0
EndsInAscii bs (Gap n) = Unit {0}
EndsInAscii bs (Token t n) = (get_or bs 0 0 < 128) × (get_or bs (n - 1) 0 < 128)
EndsInAscii bs Bad = Unit {0}

run_ends : (p : ℕ → Bool) (b : ℕ) (bs : List ℕ) → ((c : ℕ) → p c ≡ true → c < 128) → p b ≡ true → (b < 128) × (get_or (b ∷ bs) (prefix_len p (b ∷ bs) - 1) 0 < 128)
run_ends p b bs low h =
    let some : 0 < prefix_len p (b ∷ bs) = run_some p b bs h in
    (low b h, low _ (prefix_len_passes p (b ∷ bs) (prefix_len p (b ∷ bs) - 1) 0 (omega (arith, some))))

name_low : (b : ℕ) → goes_on_name b ≡ true → b < 128
name_low b h = grind (arith, nat_tests)

digit_low : (b : ℕ) → is_ascii_digit b ≡ true → b < 128
digit_low b h = grind (arith, nat_tests)

name_ends : (b : ℕ) (bs : List ℕ) → begins_name b ≡ true → EndsInAscii (b ∷ bs) (name_begin (b ∷ bs))
unfolding name_begin
name_ends b bs h = run_ends goes_on_name b bs name_low (begins_name_goes_on b h)

integer_ends : (b : ℕ) (bs : List ℕ) → is_ascii_digit b ≡ true → EndsInAscii (b ∷ bs) (integer_begin (b ∷ bs))
unfolding integer_begin
integer_ends b bs h =
    let n : ℕ = prefix_len is_ascii_digit (b ∷ bs) in
    choice_is (EndsInAscii (b ∷ bs)) (is_integer (take n (b ∷ bs))) (Token Integer n) Bad (λ e. run_ends is_ascii_digit b bs digit_low h) (λ e. tt)

-- a string's last byte is a quote
abbrev EndsInQuote : List ℕ → Option ℕ → Type 0
EndsInQuote bs None = Unit {0}
EndsInQuote bs (Some n) = (0 < n) × (get_or bs (n - 1) 0 ≡ 34)

quote_choice : (bs : List ℕ) (test : Bool) (x y : Option ℕ) → (test ≡ true → EndsInQuote bs x) → EndsInQuote bs y → EndsInQuote bs (if test then x else y)
quote_choice bs true x y a b = a refl
quote_choice bs false x y a b = b

quote_next : (b : ℕ) (bs : List ℕ) (x : Option ℕ) → EndsInQuote bs x → EndsInQuote (b ∷ bs) (option_map (λ n. n + 1) x)
quote_next b bs None h = tt
quote_next b bs (Some n) h = let e : n + 1 - 1 ≡ suc (n - 1) = omega (arith, h.0) in (omega arith, rw e h.1)

same_byte : (b c : ℕ) → eqb b c ≡ true → b ≡ c
same_byte b c h = elim (eqb_tells b c) [ inl t ↦ t.1 | inr t ↦ absurd (let e = rw t.0 at h in cc) ]

string_quote : (escaped : Bool) (bs : List ℕ) → EndsInQuote bs (string_len escaped bs)
string_quote true [] = tt
string_quote false [] = tt
string_quote true (b ∷ bs) = quote_choice (b ∷ bs) (is_escape b) _ None (λ e. quote_next b bs (string_len false bs) (string_quote false bs)) tt
string_quote false (b ∷ bs) =
    quote_choice (b ∷ bs) (eqb b 34) (Some 1) _ (λ e. (omega arith, same_byte b 34 e))
    (quote_choice (b ∷ bs) (nat_lt b 32) None _ (λ e. tt) (quote_next b bs (string_len (eqb b 92) bs) (string_quote (eqb b 92) bs)))

string_token_ends : (b : ℕ) (bs : List ℕ) (x : Option ℕ) → b ≡ 34 → EndsInQuote bs x → EndsInAscii (b ∷ bs) (option_map_or (λ n. Token Str (n + 1)) x Bad)
string_token_ends b bs None e h = tt
string_token_ends b bs (Some n) e h = let k : n + 1 - 1 ≡ suc (n - 1) = omega (arith, h.0) in (omega (arith, e), rw (k, h.1) (omega arith))

string_ends : (b : ℕ) (bs : List ℕ) → eqb b 34 ≡ true → EndsInAscii (b ∷ bs) (string_begin bs)
unfolding string_begin
string_ends b bs h = string_token_ends b bs (string_len false bs) (same_byte b 34 h) (string_quote false bs)

mark_ascii : (m : Mark) → (get_or (mark_text m) 0 0 < 128) × (get_or (mark_text m) (length (mark_text m) - 1) 0 < 128)
mark_ascii OpenBrace = (lit< tt, lit< tt)
mark_ascii _ = (lit< tt, lit< tt)

begin_byte : (bs needle : List ℕ) (i : ℕ) → starts_with nat_eq bs needle ≡ true → i < length needle → get_or bs i 0 ≡ get_or needle i 0
begin_byte bs needle i h l =
    let e : needle ≡ take (length needle) bs = (bytes_eq-Decides needle (take (length needle) bs)).0 h in
    let f : get_or needle i 0 ≡ get_or (take (length needle) bs) i 0 = ap (λ (xs : List ℕ). get_or xs i 0) e in
    sym (f ∙ get_or-take (length needle) bs i 0 l)

mark_found_ends : (bs : List ℕ) (x : Option Mark) → ((m : Mark) → x ≡ Some m → starts_with nat_eq bs (mark_text m) ≡ true)
    → EndsInAscii bs (option_map_or (λ m. Token (Marked m) (length (mark_text m))) x Bad)
mark_found_ends bs None h = tt
mark_found_ends bs (Some m) h =
    let s = h m refl in
    let some : 0 < length (mark_text m) = mark_some m in
    (rw (begin_byte bs (mark_text m) 0 s some) (mark_ascii m).0, rw (begin_byte bs (mark_text m) (length (mark_text m) - 1) s (omega (arith, some))) (mark_ascii m).1)

mark_ends : (bs : List ℕ) → EndsInAscii bs (mark_begin bs)
unfolding mark_of
mark_ends bs = mark_found_ends bs (mark_of bs) (λ m e. find_passes (λ n. starts_with nat_eq bs (mark_text n)) marks_longest_first m e)

pub begins_end_in_ascii : (bs : List ℕ) → EndsInAscii bs (begins bs)
unfolding begins comment_begin
begins_end_in_ascii [] = tt
begins_end_in_ascii (b ∷ bs) =
    let P : Begin → Type 0 = EndsInAscii (b ∷ bs) in
    choice_is P (begins_name b) _ _ (name_ends b bs) (λ n1.
    choice_is P (is_ascii_digit b) _ _ (integer_ends b bs) (λ n2.
    choice_is P (eqb b 34) _ _ (string_ends b bs) (λ n3.
    choice_is P (is_blank b) (Gap 1) _ (λ e. tt) (λ n4.
    choice_is P (starts_with nat_eq (b ∷ bs) (codes "//")) _ _ (λ e. tt) (λ n5. mark_ends (b ∷ bs))))))
