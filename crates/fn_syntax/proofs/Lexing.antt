-- What a text begins with, from its parts.
use Rattle.std.proofs.Common.{◌≡◌, ℕ, ◌+◌, inl, inr, arith, List, [], ◌∷◌, eqb, take, length, true, false, refl}
use Rattle.std.specs.Prelude.{Option, Some, None, nat_eq, codes}
use Rattle.std.proofs.lemmas.Bool.Decides.{eqb_tells}
use Rattle.std.specs.Char.{is_ascii_digit}
use Rattle.std.specs.List.{prefix_len, starts_with}
use Rattle.std.specs.Option.{option_map_or}
use Rattle.fn_tree.specs.Lexemes.{begins_name, goes_on_name, word_of, name_begin, is_integer, integer_begin, string_len, string_begin, is_blank, comment_begin, mark_begin, begins}
use Rattle.fn_tree.specs.declared.begin.Begin.TheVariants.{Gap, Token, Bad}
use Rattle.fn_tree.specs.declared.lexeme.Terminal.TheVariants.{Name, Integer, Str, Word as Reserved}
use Rattle.fn_tree.specs.declared.lexeme.Word.{Word}

-- a name or a reserved word
pub name_found : (bs : List ℕ) (n : ℕ) (found : Option Word) → n ≡ prefix_len goes_on_name bs → found ≡ word_of (take n bs) → Token (option_map_or Reserved found Name) n ≡ name_begin bs
unfolding name_begin
name_found bs n found e f = rw (f, e)

pub integer_found : (bs : List ℕ) (n : ℕ) → n ≡ prefix_len is_ascii_digit bs → is_integer (take n bs) ≡ true → Token Integer n ≡ integer_begin bs
unfolding integer_begin
integer_found bs n e f = let g = rw e at f in rw (g, e)

pub no_integer_found : (bs : List ℕ) (n : ℕ) → n ≡ prefix_len is_ascii_digit bs → is_integer (take n bs) ≡ false → Bad ≡ integer_begin bs
unfolding integer_begin
no_integer_found bs n e f = let g = rw e at f in rw g

pub string_found : (bs : List ℕ) (n : ℕ) → string_len false bs ≡ Some n → Token Str (n + 1) ≡ string_begin bs
unfolding string_begin
string_found bs n e = rw e

pub no_string_found : (bs : List ℕ) → string_len false bs ≡ None → Bad ≡ string_begin bs
unfolding string_begin
no_string_found bs e = rw e

-- what bytes begin with, by the tests of their first byte in order
module _ (bytes : List ℕ) (b : ℕ) (bs : List ℕ) (same : bytes ≡ b ∷ bs) where
  pub name_first : begins_name b ≡ true → name_begin bytes ≡ begins bytes
  unfolding begins
  name_first t = rw (same, t)

  pub integer_first : begins_name b ≡ false → is_ascii_digit b ≡ true → integer_begin bytes ≡ begins bytes
  unfolding begins
  integer_first f t = rw (same, f, t)

  pub string_first : begins_name b ≡ false → is_ascii_digit b ≡ false → eqb b 34 ≡ true → string_begin bs ≡ begins bytes
  unfolding begins
  string_first f1 f2 t = rw (same, f1, f2, t)

  pub blank_first : begins_name b ≡ false → is_ascii_digit b ≡ false → eqb b 34 ≡ false → is_blank b ≡ true → Gap 1 ≡ begins bytes
  unfolding begins
  blank_first f1 f2 f3 t = rw (same, f1, f2, f3, t)

  pub comment_first : begins_name b ≡ false → is_ascii_digit b ≡ false → eqb b 34 ≡ false → is_blank b ≡ false → starts_with nat_eq bytes (codes "//") ≡ true → comment_begin bytes ≡ begins bytes
  unfolding begins
  comment_first f1 f2 f3 f4 t = let u = rw same at t in rw (same, f1, f2, f3, f4, u)

  pub mark_first : begins_name b ≡ false → is_ascii_digit b ≡ false → eqb b 34 ≡ false → is_blank b ≡ false → starts_with nat_eq bytes (codes "//") ≡ false → mark_begin bytes ≡ begins bytes
  unfolding begins
  mark_first f1 f2 f3 f4 f5 = let u = rw same at f5 in rw (same, f1, f2, f3, f4, u)

pub nothing_first : (bytes : List ℕ) → length bytes ≡ 0 → Bad ≡ begins bytes
unfolding begins
nothing_first [] e = refl
nothing_first (b ∷ bs) e = absurd (omega (arith, e))

pub other_byte : (b c : ℕ) → (b ≡ c → ⊥) → eqb b c ≡ false
other_byte b c h = elim (eqb_tells b c) [ inl t ↦ absurd (h t.1) | inr t ↦ t.0 ]
