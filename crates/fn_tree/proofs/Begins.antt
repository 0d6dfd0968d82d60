-- What some bytes begin with has a byte and lies in them.
use Rattle.std.proofs.Common.{◌≡◌, ℕ, suc, ◌+◌, ◌<◌, ◌≤◌, List, [], ◌∷◌, length, take, Bool, true, false, not, cond, ◌||◌, refl, ap, inl, inr, ◌⊎◌, sym, arith, lit<, eqb}
use Rattle.std.specs.Prelude.{nat_eq, nat_lt, Option, Some, None, find, codes, if◌then◌else◌}
use Rattle.std.specs.Char.{is_ascii_digit}
use Rattle.std.specs.List.{prefix_len, starts_with}
use Rattle.std.specs.Option.{option_map, option_map_or}
use Rattle.std.specs.Int.{is_in_range}
use Rattle.std.proofs.lemmas.List.{length-take}
use Rattle.std.proofs.lemmas.List.Sums.{prefix_len-le-length}
use Rattle.std.proofs.lemmas.Slice.Eq.{bytes_eq-Decides}
use Rattle.std.proofs.lemmas.Bool.Decides.{eqb_tells}
use Rattle.fn_tree.specs.Spellings.{mark_text, marks_longest_first}
use Rattle.fn_tree.specs.Lexemes.{begins_name, goes_on_name, name_begin, integer_begin, is_integer, string_len, string_begin, mark_of, mark_begin, is_blank, comment_begin, begins, is_escape}
use Rattle.fn_tree.specs.declared.begin.Begin.{Begin}
use Rattle.fn_tree.specs.declared.begin.Begin.TheVariants.{Gap, Token, Bad}
use Rattle.fn_tree.specs.declared.lexeme.Mark.{Mark}
use Rattle.fn_tree.specs.declared.lexeme.Mark.TheVariants.{OpenBrace}
use Rattle.fn_tree.specs.declared.lexeme.Terminal.TheVariants.{Integer, Str, Mark as Marked}

-- it has a byte, and no more than so many
abbrev pub Fits : Begin → ℕ → Type 0
Fits (Gap n) k = (0 < n) × (n ≤ k)
Fits (Token t n) k = (0 < n) × (n ≤ k)
Fits Bad k = Unit {0}

-- what holds of both branches of a test
pub choice_is : (P : Begin → Type 0) (test : Bool) (x y : Begin) → (test ≡ true → P x) → (test ≡ false → P y) → P (if test then x else y)
choice_is P true x y a b = a refl
choice_is P false x y a b = b refl

choice_fits : (test : Bool) (x y : Begin) (k : ℕ) → (test ≡ true → Fits x k) → (test ≡ false → Fits y k) → Fits (if test then x else y) k
choice_fits true x y k a b = a refl
choice_fits false x y k a b = b refl

pub run_some : (p : ℕ → Bool) (b : ℕ) (bs : List ℕ) → p b ≡ true → 0 < prefix_len p (b ∷ bs)
run_some p b bs h = rw h (omega arith)

name_goes_on : (lower upper digit mark : Bool) → ((upper || lower) || mark) ≡ true → (((digit || upper) || lower) || mark) ≡ true
name_goes_on true true true m h = refl
name_goes_on true true false m h = refl
name_goes_on true false true m h = refl
name_goes_on true false false m h = refl
name_goes_on false true true m h = refl
name_goes_on false true false m h = refl
name_goes_on false false true m h = refl
name_goes_on false false false m h = h

pub begins_name_goes_on : (b : ℕ) → begins_name b ≡ true → goes_on_name b ≡ true
begins_name_goes_on b h = name_goes_on (is_in_range 97 122 b) (is_in_range 65 90 b) (is_in_range 48 57 b) (eqb b 95) h

name_fits : (b : ℕ) (bs : List ℕ) → begins_name b ≡ true → Fits (name_begin (b ∷ bs)) (length (b ∷ bs))
unfolding name_begin
name_fits b bs h =
    (run_some goes_on_name b bs (begins_name_goes_on b h), prefix_len-le-length goes_on_name (b ∷ bs))

integer_fits : (b : ℕ) (bs : List ℕ) → is_ascii_digit b ≡ true → Fits (integer_begin (b ∷ bs)) (length (b ∷ bs))
unfolding integer_begin
integer_fits b bs h =
    let n : ℕ = prefix_len is_ascii_digit (b ∷ bs) in
    choice_fits (is_integer (take n (b ∷ bs))) (Token Integer n) Bad (length (b ∷ bs)) (λ e. (run_some is_ascii_digit b bs h, prefix_len-le-length is_ascii_digit (b ∷ bs))) (λ e. tt)

-- a length, if there is one, is at most so many
abbrev AtMost : ℕ → Option ℕ → Type 0
AtMost k None = Unit {0}
AtMost k (Some n) = n ≤ k

at_most_choice : (test : Bool) (x y : Option ℕ) (k : ℕ) → AtMost k x → AtMost k y → AtMost k (if test then x else y)
at_most_choice true x y k a b = a
at_most_choice false x y k a b = b

at_most_next : (k : ℕ) (x : Option ℕ) → AtMost k x → AtMost (suc k) (option_map (λ n. n + 1) x)
at_most_next k None h = tt
at_most_next k (Some n) h = omega arith

string_within : (escaped : Bool) (bs : List ℕ) → AtMost (length bs) (string_len escaped bs)
string_within true [] = tt
string_within false [] = tt
string_within true (b ∷ bs) = at_most_choice (is_escape b) _ None _ (at_most_next _ (string_len false bs) (string_within false bs)) tt
string_within false (b ∷ bs) =
    at_most_choice (eqb b 34) (Some 1) _ _ (omega arith)
    (at_most_choice (nat_lt b 32) None _ _ tt (at_most_next _ (string_len (eqb b 92) bs) (string_within (eqb b 92) bs)))

string_token_fits : (k : ℕ) (x : Option ℕ) → AtMost k x → Fits (option_map_or (λ n. Token Str (n + 1)) x Bad) (suc k)
string_token_fits k None h = tt
string_token_fits k (Some n) h = (omega arith, omega arith)

string_fits : (b : ℕ) (bs : List ℕ) → Fits (string_begin bs) (length (b ∷ bs))
unfolding string_begin
string_fits b bs = string_token_fits (length bs) (string_len false bs) (string_within false bs)

slash_first : (b : ℕ) (bs : List ℕ) → starts_with nat_eq (b ∷ bs) (codes "//") ≡ true → b ≡ 47
slash_first b bs h = elim (eqb_tells 47 b) [ inl t ↦ sym t.1 | inr t ↦ absurd (let e = rw t.0 at h in cc) ]

comment_fits : (b : ℕ) (bs : List ℕ) → starts_with nat_eq (b ∷ bs) (codes "//") ≡ true → Fits (comment_begin (b ∷ bs)) (length (b ∷ bs))
unfolding comment_begin
comment_fits b bs h =
    let e : not (eqb b 10) ≡ true = rw (slash_first b bs h) refl in
    (run_some (λ c. not (eqb c 10)) b bs e, prefix_len-le-length (λ c. not (eqb c 10)) (b ∷ bs))

found_or_later : {X : Type 0} (test : Bool) (y x : X) (later : Option X) → cond test (Some y) later ≡ Some x → ((test ≡ true) × (y ≡ x)) ⊎ (later ≡ Some x)
found_or_later true y x later h = inl (refl, cc)
found_or_later false y x later h = inr h

-- what is found passes
pub find_passes : {X : Type 0} (p : X → Bool) (xs : List X) (x : X) → find p xs ≡ Some x → p x ≡ true
find_passes p [] x h = cc
find_passes p (y ∷ ys) x h = elim (found_or_later (p y) y x (find p ys) h) [ inl t ↦ rw t.1 at t.0 | inr later ↦ find_passes p ys x later ]

begin_with : (bs needle : List ℕ) → starts_with nat_eq bs needle ≡ true → length needle ≤ length bs
begin_with bs needle h =
    let e : length needle ≡ length (take (length needle) bs) = ap length ((bytes_eq-Decides needle (take (length needle) bs)).0 h) in
    omega (arith, length-take (length needle) bs)

pub mark_some : (m : Mark) → 0 < length (mark_text m)
mark_some OpenBrace = lit< tt
mark_some _ = lit< tt

mark_found_fits : (bs : List ℕ) (x : Option Mark) → ((m : Mark) → x ≡ Some m → length (mark_text m) ≤ length bs) → Fits (option_map_or (λ m. Token (Marked m) (length (mark_text m))) x Bad) (length bs)
mark_found_fits bs None h = tt
mark_found_fits bs (Some m) h = (mark_some m, h m refl)

mark_fits : (bs : List ℕ) → Fits (mark_begin bs) (length bs)
unfolding mark_of
mark_fits bs = mark_found_fits bs (mark_of bs) (λ m e. begin_with bs (mark_text m) (find_passes (λ n. starts_with nat_eq bs (mark_text n)) marks_longest_first m e))

-- what some bytes begin with has a byte, and no more than they have
pub begins_fits : (b : ℕ) (bs : List ℕ) → Fits (begins (b ∷ bs)) (length (b ∷ bs))
unfolding begins
begins_fits b bs =
    let k : ℕ = length (b ∷ bs) in
    choice_fits (begins_name b) _ _ k (name_fits b bs) (λ n1.
    choice_fits (is_ascii_digit b) _ _ k (integer_fits b bs) (λ n2.
    choice_fits (eqb b 34) _ _ k (λ e. string_fits b bs) (λ n3.
    choice_fits (is_blank b) (Gap 1) _ k (λ e. (omega arith, omega arith)) (λ n4.
    choice_fits (starts_with nat_eq (b ∷ bs) (codes "//")) _ _ k (comment_fits b bs) (λ n5. mark_fits (b ∷ bs))))))
