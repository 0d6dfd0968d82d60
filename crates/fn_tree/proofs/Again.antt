-- A token that is no string is read again where its bytes stand before a blank.
use Rattle.std.proofs.Common.{◌≡◌, ℕ, zero, suc, ◌+◌, ◌<◌, List, [], ◌∷◌, ◌++◌, length, take, Bool, true, false, refl, sym, ◌∙◌, ap, subst, ◌⊎◌, inl, inr, arith, eqb}
use Rattle.std.specs.Prelude.{nat_eq, codes, Option, Some, None, if◌then◌else◌}
use Rattle.std.specs.Char.{is_ascii_digit}
use Rattle.std.specs.List.{prefix_len, starts_with}
use Rattle.std.specs.Option.{option_map_or}
use Rattle.std.proofs.lemmas.Slice.Eq.{bytes_eq-Decides}
use Rattle.fn_tree.specs.Spellings.{mark_text, marks_longest_first}
use Rattle.fn_tree.specs.Lexemes.{begins, begins_name, goes_on_name, name_begin, integer_begin, is_integer, string_begin, string_len, is_blank, comment_begin, mark_of}
use Rattle.fn_tree.specs.declared.begin.Begin.{Begin}
use Rattle.fn_tree.specs.declared.begin.Begin.TheVariants.{Gap, Token, Bad}
use Rattle.fn_tree.specs.declared.lexeme.Mark.{Mark}
use Rattle.fn_tree.specs.declared.lexeme.Mark.TheVariants.{OpenBrace}
use Rattle.fn_tree.specs.declared.lexeme.Terminal.{Terminal}
use Rattle.fn_tree.specs.declared.lexeme.Terminal.TheVariants.{Integer, Str, Mark as Marked}
use Rattle.fn_tree.proofs.Begins.{choice_is, run_some, begins_name_goes_on, find_passes}

-- a space or a line feed
abbrev pub IsGap : ℕ → Type 0
IsGap g = (g ≡ 32) ⊎ (g ≡ 10)

-- ---- runs

-- a run that stands before a byte that is not of it ends there
stops_more : (p : ℕ → Bool) (b : ℕ) (bs : List ℕ) (g : ℕ) (more : List ℕ) → p g ≡ false → (x : Bool) → p b ≡ x
    → prefix_len p (take (prefix_len p bs) bs ++ g ∷ more) ≡ prefix_len p bs → prefix_len p (take (prefix_len p (b ∷ bs)) (b ∷ bs) ++ g ∷ more) ≡ prefix_len p (b ∷ bs)
stops_more p b bs g more h true e ih = let k : 1 + prefix_len p bs ≡ suc (prefix_len p bs) = omega arith in rw (e, k, e, ih) k
stops_more p b bs g more h false e ih = rw (e, h)

run_stops : (p : ℕ → Bool) (bs : List ℕ) (g : ℕ) (more : List ℕ) → p g ≡ false → prefix_len p (take (prefix_len p bs) bs ++ g ∷ more) ≡ prefix_len p bs
run_stops p [] g more h = rw h
run_stops p (b ∷ bs) g more h = stops_more p b bs g more h (p b) refl (run_stops p bs g more h)

again_more : (p : ℕ → Bool) (b : ℕ) (bs more : List ℕ) (x : Bool) → p b ≡ x
    → take (prefix_len p bs) (take (prefix_len p bs) bs ++ more) ≡ take (prefix_len p bs) bs → take (prefix_len p (b ∷ bs)) (take (prefix_len p (b ∷ bs)) (b ∷ bs) ++ more) ≡ take (prefix_len p (b ∷ bs)) (b ∷ bs)
again_more p b bs more true e ih = let k : 1 + prefix_len p bs ≡ suc (prefix_len p bs) = omega arith in rw (e, k, ih)
again_more p b bs more false e ih = rw e refl

run_again : (p : ℕ → Bool) (bs more : List ℕ) → take (prefix_len p bs) (take (prefix_len p bs) bs ++ more) ≡ take (prefix_len p bs) bs
run_again p [] more = refl
run_again p (b ∷ bs) more = again_more p b bs more (p b) refl (run_again p bs more)

-- a list that is taken before others has the first byte that it had
head_again : (n : ℕ) (b : ℕ) (bs more : List ℕ) → 0 < n → (xs : List ℕ) × (take n (b ∷ bs) ++ more ≡ b ∷ xs)
head_again zero b bs more h = absurd (omega arith)
head_again (suc n) b bs more h = (take n bs ++ more, refl)

-- ---- names and integers

begins_as_name : (b : ℕ) (bs : List ℕ) → begins_name b ≡ true → begins (b ∷ bs) ≡ name_begin (b ∷ bs)
unfolding begins
begins_as_name b bs h = rw h

begins_as_integer : (b : ℕ) (bs : List ℕ) → begins_name b ≡ false → is_ascii_digit b ≡ true → begins (b ∷ bs) ≡ integer_begin (b ∷ bs)
unfolding begins
begins_as_integer b bs h d = rw (h, d)

gap_ends_name : (g : ℕ) → IsGap g → goes_on_name g ≡ false
gap_ends_name g (inl e) = rw e refl
gap_ends_name g (inr e) = rw e refl

gap_ends_integer : (g : ℕ) → IsGap g → is_ascii_digit g ≡ false
gap_ends_integer g (inl e) = rw e refl
gap_ends_integer g (inr e) = rw e refl

name_same : (bs : List ℕ) (g : ℕ) (more : List ℕ) → IsGap g → name_begin (take (prefix_len goes_on_name bs) bs ++ g ∷ more) ≡ name_begin bs
unfolding name_begin
name_same bs g more gap = rw (run_stops goes_on_name bs g more (gap_ends_name g gap), run_again goes_on_name bs (g ∷ more))

integer_same : (bs : List ℕ) (g : ℕ) (more : List ℕ) → IsGap g → integer_begin (take (prefix_len is_ascii_digit bs) bs ++ g ∷ more) ≡ integer_begin bs
unfolding integer_begin
integer_same bs g more gap = rw (run_stops is_ascii_digit bs g more (gap_ends_integer g gap), run_again is_ascii_digit bs (g ∷ more))

-- what is read again of a token's bytes before a blank
abbrev pub ReadAgain : List ℕ → ℕ → List ℕ → Begin → Type 0
ReadAgain bs g more x = (t : Terminal) (n : ℕ) → (t ≡ Str → ⊥) → x ≡ Token t n → begins (take n bs ++ g ∷ more) ≡ Token t n

token_len : (t u : Terminal) (n k : ℕ) → Token t n ≡ Token u k → k ≡ n
token_len t u n k e = cc

name_len : (bs : List ℕ) (t : Terminal) (n : ℕ) → name_begin bs ≡ Token t n → n ≡ prefix_len goes_on_name bs
unfolding name_begin
name_len bs t n e = token_len _ t _ n e

integer_token : (test : Bool) (k : ℕ) (t : Terminal) (n : ℕ) → (if test then Token Integer k else Bad) ≡ Token t n → n ≡ k
integer_token true k t n e = cc
integer_token false k t n e = absurd (cc)

integer_len : (bs : List ℕ) (t : Terminal) (n : ℕ) → integer_begin bs ≡ Token t n → n ≡ prefix_len is_ascii_digit bs
unfolding integer_begin
integer_len bs t n e = integer_token (is_integer (take (prefix_len is_ascii_digit bs) bs)) _ t n e

name_again : (b : ℕ) (bs : List ℕ) (g : ℕ) (more : List ℕ) → IsGap g → begins_name b ≡ true → ReadAgain (b ∷ bs) g more (name_begin (b ∷ bs))
name_again b bs g more gap h t n other e =
    let k : n ≡ prefix_len goes_on_name (b ∷ bs) = name_len (b ∷ bs) t n e in
    let x = head_again (prefix_len goes_on_name (b ∷ bs)) b bs (g ∷ more) (run_some goes_on_name b bs (begins_name_goes_on b h)) in
    rw k (ap begins x.1 ∙ begins_as_name b x.0 h ∙ sym (ap name_begin x.1) ∙ name_same (b ∷ bs) g more gap ∙ e ∙ ap (Token t) k)

integer_again : (b : ℕ) (bs : List ℕ) (g : ℕ) (more : List ℕ) → IsGap g → begins_name b ≡ false → is_ascii_digit b ≡ true → ReadAgain (b ∷ bs) g more (integer_begin (b ∷ bs))
integer_again b bs g more gap h d t n other e =
    let k : n ≡ prefix_len is_ascii_digit (b ∷ bs) = integer_len (b ∷ bs) t n e in
    let x = head_again (prefix_len is_ascii_digit (b ∷ bs)) b bs (g ∷ more) (run_some is_ascii_digit b bs d) in
    rw k (ap begins x.1 ∙ begins_as_integer b x.0 h d ∙ sym (ap integer_begin x.1) ∙ integer_same (b ∷ bs) g more gap ∙ e ∙ ap (Token t) k)

-- ---- marks

mark_before_space : (m : Mark) (more : List ℕ) → begins (mark_text m ++ 32 ∷ more) ≡ Token (Marked m) (length (mark_text m))
unfolding begins mark_of
mark_before_space OpenBrace more = refl
mark_before_space _ more = refl

mark_before_line_feed : (m : Mark) (more : List ℕ) → begins (mark_text m ++ 10 ∷ more) ≡ Token (Marked m) (length (mark_text m))
unfolding begins mark_of
mark_before_line_feed OpenBrace more = refl
mark_before_line_feed _ more = refl

mark_at : (m : Mark) (g : ℕ) (more : List ℕ) → IsGap g → begins (mark_text m ++ g ∷ more) ≡ Token (Marked m) (length (mark_text m))
mark_at m g more (inl e) = subst (λ x. begins (mark_text m ++ x ∷ more) ≡ Token (Marked m) (length (mark_text m))) (sym e) (mark_before_space m more)
mark_at m g more (inr e) = subst (λ x. begins (mark_text m ++ x ∷ more) ≡ Token (Marked m) (length (mark_text m))) (sym e) (mark_before_line_feed m more)

pub mark_taken : (bs : List ℕ) (m : Mark) → mark_of bs ≡ Some m → mark_text m ≡ take (length (mark_text m)) bs
unfolding mark_of
mark_taken bs m e = (bytes_eq-Decides (mark_text m) (take (length (mark_text m)) bs)).0 (find_passes (λ n. starts_with nat_eq bs (mark_text n)) marks_longest_first m e)

found_mark : (bs : List ℕ) (g : ℕ) (more : List ℕ) → IsGap g → (x : Option Mark) → mark_of bs ≡ x → ReadAgain bs g more (option_map_or (λ m. Token (Marked m) (length (mark_text m))) x Bad)
found_mark bs g more gap None f t n other e = absurd (cc)
found_mark bs g more gap (Some m) f t n other e =
    let k : n ≡ length (mark_text m) = token_len (Marked m) t (length (mark_text m)) n e in
    rw (k, ← mark_taken bs m f) (mark_at m g more gap ∙ e ∙ ap (Token t) k)

-- ---- any token but a string

string_no : (bs : List ℕ) (g : ℕ) (more : List ℕ) (x : Option ℕ) → ReadAgain bs g more (option_map_or (λ n. Token Str (n + 1)) x Bad)
string_no bs g more None t n other e = absurd (cc)
string_no bs g more (Some k) t n other e = absurd (other (cc))

gap_no : (bs : List ℕ) (g : ℕ) (more : List ℕ) (k : ℕ) → ReadAgain bs g more (Gap k)
gap_no bs g more k t n other e = absurd (cc)

-- a token that is no string is read again of its bytes before a blank
pub read_again : (bs : List ℕ) (g : ℕ) (more : List ℕ) → IsGap g → ReadAgain bs g more (begins bs)
unfolding begins string_begin comment_begin
read_again [] g more gap = λ t n other e. absurd (cc)
read_again (b ∷ bs) g more gap =
    let P : Begin → Type 0 = ReadAgain (b ∷ bs) g more in
    choice_is P (begins_name b) _ _ (name_again b bs g more gap) (λ n1.
    choice_is P (is_ascii_digit b) _ _ (integer_again b bs g more gap n1) (λ n2.
    choice_is P (eqb b 34) _ _ (λ e. string_no (b ∷ bs) g more (string_len false bs)) (λ n3.
    choice_is P (is_blank b) (Gap 1) _ (λ e. gap_no (b ∷ bs) g more 1) (λ n4.
    choice_is P (starts_with nat_eq (b ∷ bs) (codes "//")) _ _ (λ e. gap_no (b ∷ bs) g more _) (λ n5. found_mark (b ∷ bs) g more gap (mark_of (b ∷ bs)) refl)))))
