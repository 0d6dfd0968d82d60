-- The canonical text of tables and functions is that of their tokens, in order.
use Rattle.std.proofs.Common.{◌≡◌, ℕ, List, [], ◌∷◌, ◌++◌, Bool, true, false, map, refl, ap, ◌∙◌, append_assoc}
use Rattle.std.specs.Prelude.{codes}
use Rattle.std.specs.List.{flat_map}
use Rattle.std.proofs.lemmas.Grind.{flat_map-append}
use Rattle.fn_tree.specs.Canonical.{token as put, mark as put_mark, word as put_word, names_text, apart, path_text, kind_word, index_text, table_text, function_text}
use Rattle.fn_tree.specs.Grammar.{Prod, Parse, Takes, Bound, token, seq, turns, rule}
use Rattle.fn_tree.specs.Grammar.Takes.{one, nothing, both, left, right, stop, turn, call}
use Rattle.fn_tree.specs.Language.{grammar, mark, commas}
use Rattle.fn_tree.specs.LexemeValues.{slice_of}
use Rattle.fn_tree.specs.ParseTrees.{token_of, named_of, said, second, turns_of, commas_of, kind_of, parts_of, path_of, parameters_of, function_of, index_of, table_of}
use Rattle.fn_tree.specs.Rules.{Rule, table, index, function, path, parameters}
use Rattle.fn_tree.specs.Terminals.{is, is_field_name, is_part, is_entry}
use Rattle.fn_tree.specs.declared.lexeme.Lexeme.{Lexeme}
use Rattle.fn_tree.specs.declared.lexeme.Mark.TheVariants.{OpenBrace, CloseBrace, OpenParen, CloseParen, Comma, Colon, Semicolon, Slash}
use Rattle.fn_tree.specs.declared.lexeme.Terminal.{Terminal}
use Rattle.fn_tree.specs.declared.lexeme.Terminal.TheVariants.{Name, Word as Reserved}
use Rattle.fn_tree.specs.declared.lexeme.Word.TheVariants.{Table, Index, Query, Mutation, Helper}
use Rattle.fn_tree.proofs.Tokens.{same_is}
use Rattle.fn_tree.proofs.StatementTexts.{block_said}
use Rattle.fn_tree.proofs.TreeTexts.{written_as, written, parse_text, field_said, name_said, mark_said, word_said, spell2, spell3, spell5, spell6, more_parts}

-- ---- facts of tokens

-- what a part of a path says has no mark in it, and is how the part is written
abbrev pub IsPart : List ℕ → Lexeme → Type 0
IsPart s c = is_part c.terminal ≡ true → flat_map apart (said s c) ≡ written s c

abbrev pub AllParts : List ℕ → List Lexeme → Type 0
AllParts s [] = Unit {0}
AllParts s (c ∷ cs) = IsPart s c × AllParts s cs

pub parts_after : (s : List ℕ) {g : Rule → Prod} {p : Prod} {a : Parse} {ts r : List Lexeme} → Takes g p a ts r → AllParts s ts → AllParts s r
parts_after s (one h) f = f.1
parts_after s nothing f = f
parts_after s (both t u) f = parts_after s u (parts_after s t f)
parts_after s (left t) f = parts_after s t f
parts_after s (right t) f = parts_after s t f
parts_after s stop f = f
parts_after s (turn l t u) f = parts_after s u (parts_after s t f)
parts_after s (call t) f = parts_after s t f

-- ---- names and paths

name_is_field : (c : Lexeme) → is Name c.terminal ≡ true → is_field_name c.terminal ≡ true
name_is_field c h = ap is_field_name (same_is Name c.terminal h)

name_is_part : (c : Lexeme) → is Name c.terminal ≡ true → is_part c.terminal ≡ true
name_is_part c h = ap is_part (same_is Name c.terminal h)

entry_said : (t : Terminal) (bs : List ℕ) → is_entry t ≡ true → put_word (kind_word (kind_of t)) ≡ put (written_as t bs)
entry_said (Reserved Query) bs h = refl
entry_said (Reserved Mutation) bs h = refl
entry_said _ bs h = absurd (cc)

-- a further part of a path, behind its mark
path_step : (f n more : List ℕ) (m : List ℕ) (x y : List ℕ) → flat_map apart n ≡ x → flat_map apart more ≡ y → flat_map apart m ≡ f → flat_map apart ((m ++ n) ++ more) ≡ (f ++ x) ++ y
path_step f n more m x y p q r = flat_map-append apart (m ++ n) more ∙ ap (λ l. l ++ flat_map apart more) (flat_map-append apart m n) ∙ rw (p, q, r) refl

path_whole : (n more m k x y z : List ℕ) → flat_map apart n ≡ x → flat_map apart more ≡ y → flat_map apart k ≡ z
    → flat_map apart (((n ++ more) ++ m) ++ k) ≡ ((x ++ y) ++ flat_map apart m) ++ z
path_whole n more m k x y z p q r =
    flat_map-append apart ((n ++ more) ++ m) k ∙ ap (λ l. l ++ flat_map apart k) (flat_map-append apart (n ++ more) m ∙ ap (λ l. l ++ flat_map apart m) (flat_map-append apart n more)) ∙ rw (p, q, r) refl

path_shape : (x y m z : List ℕ) → 32 ∷ (((x ++ y) ++ (32 ∷ m ++ 32 ∷ [])) ++ z) ≡ (32 ∷ x) ++ (y ++ ((32 ∷ m) ++ (32 ∷ z)))
path_shape x y m z = ap (λ (l : List ℕ). 32 ∷ l) (simp append_assoc)

-- ---- declarations

function_parts : {k p b x y ps z : List ℕ} (o n c : List ℕ) → k ≡ x → p ≡ y → (o ++ n) ++ c ≡ ps → b ≡ z → ((((k ++ p) ++ o) ++ n) ++ c) ++ b ≡ x ++ (y ++ (ps ++ z))
function_parts o n c p1 p2 p3 p4 = rw (p1, p2, ← p3, p4) (simp append_assoc)

module _ (s : List ℕ) where
  more_names : (f : Terminal → Bool) → ((c : Lexeme) → f c.terminal ≡ true → is_field_name c.terminal ≡ true) → {k : Bound} {a : Parse} {ts r : List Lexeme}
      → Takes grammar (turns k (seq (mark Comma) (token f))) a ts r → names_text false (map (λ n. named_of s (token_of n)) (map second (turns_of a))) ≡ parse_text s a
  more_names f g stop = refl
  more_names f g (turn l (both (one {c = m} h) (one {c = n} k)) u) = more_parts (mark_said s Comma m h) (field_said s n (g n k)) (more_names f g u)

  names_said : (f : Terminal → Bool) → ((c : Lexeme) → f c.terminal ≡ true → is_field_name c.terminal ≡ true) → {a : Parse} {ts r : List Lexeme}
      → Takes grammar (commas (token f)) a ts r → names_text true (map (λ n. named_of s (token_of n)) (commas_of a)) ≡ parse_text s a
  names_said f g (both (one {c = n} k) u) = spell2 (field_said s n (g n k)) (more_names f g u)

  parameters_text : {a : Parse} {ts r : List Lexeme} → Takes grammar (rule parameters) a ts r → (put_mark OpenParen ++ names_text true (parameters_of s a)) ++ put_mark CloseParen ≡ parse_text s a
  parameters_text (call (both (one {c = o} h) (both (left t) (one {c = e} k)))) = spell3 (mark_said s OpenParen o h) (names_said (is Name) name_is_field t) (mark_said s CloseParen e k)
  parameters_text (call (both (one {c = o} h) (both (right nothing) (one {c = e} k)))) = spell3 {a2 = []} (mark_said s OpenParen o h) refl (mark_said s CloseParen e k)

  parts_text : {k : Bound} {a : Parse} {ts r : List Lexeme} → AllParts s ts → Takes grammar (turns k (seq (mark Slash) (token is_part))) a ts r → flat_map apart (parts_of s a) ≡ parse_text s a
  parts_text f stop = refl
  parts_text f (turn {b = b} l (both (one {c = m} h) (one {c = n} k)) u) =
      path_step (32 ∷ 47 ∷ 32 ∷ []) (said s n) (parts_of s b) (codes "/") (written s n) (parse_text s b) (f.1.0 k) (parts_text f.1.1 u) refl
      ∙ more_parts (mark_said s Slash m h) refl refl

  path_said : {a : Parse} {ts r : List Lexeme} → AllParts s ts → Takes grammar (rule path) a ts r → path_text (path_of s a) ≡ parse_text s a
  path_said f (call (both (one {c = n} h) (both {a = a} t (both (one {c = m} i) (one {c = k} j))))) =
      let rest = parts_after s t f.1 in
      ap put (path_whole (said s n) (parts_of s a) (codes ":") (said s k) (written s n) (parse_text s a) (written s k) (f.0 h) (parts_text f.1 t) (rest.1.0 j))
      ∙ path_shape (written s n) (parse_text s a) (codes ":") (written s k)
      ∙ ap (λ x. put (written s n) ++ (parse_text s a ++ (x ++ put (written s k)))) (mark_said s Colon m i)

  index_said : {a : Parse} {ts r : List Lexeme} → Takes grammar (rule index) a ts r → index_text (index_of s a) ≡ parse_text s a
  index_said (call (both (one {c = w} h) (both (one {c = n} i) (both (one {c = o} j) (both t (both (one {c = e} k) (one {c = z} l))))))) =
      spell6 (word_said s Index w h) (name_said s n i) (mark_said s OpenParen o j) (names_said is_field_name (λ c p. p) t) (mark_said s CloseParen e k) (mark_said s Semicolon z l)

  indexes_said : {k : Bound} {a : Parse} {ts r : List Lexeme} → Takes grammar (turns k (rule index)) a ts r → flat_map index_text (map (index_of s) (turns_of a)) ≡ parse_text s a
  indexes_said stop = refl
  indexes_said (turn l t u) = spell2 (index_said t) (indexes_said u)

  -- a table's tokens, and a line feed
  pub table_said : {a : Parse} {ts r : List Lexeme} → Takes grammar (rule table) a ts r → 32 ∷ table_text (table_of s a) ≡ parse_text s a ++ codes "\n"
  table_said (call (both (one {c = w} h) (both (one {c = n} i) (both (one {c = o} j) (both t (one {c = e} k)))))) =
      ap (λ x. x ++ codes "\n") (spell5 (word_said s Table w h) (name_said s n i) (mark_said s OpenBrace o j) (indexes_said t) (mark_said s CloseBrace e k))

  -- a function's tokens, and a line feed
  pub function_said : {a : Parse} {ts r : List Lexeme} → AllParts s ts → Takes grammar (rule function) a ts r → 32 ∷ function_text (function_of s a) ≡ parse_text s a ++ codes "\n"
  function_said f (call (left (both (one {c = w} h) (both p (both {a = qs} ps b))))) =
      ap (λ x. x ++ codes "\n") (function_parts (put_mark OpenParen) (names_text true (parameters_of s qs)) (put_mark CloseParen) (entry_said w.terminal (slice_of s w) h) (path_said f.1 p) (parameters_text ps) (block_said s b))
  function_said f (call (right (both (one {c = w} h) (both (one {c = n} i) (both {a = qs} ps b))))) =
      ap (λ x. x ++ codes "\n") (function_parts (put_mark OpenParen) (names_text true (parameters_of s qs)) (put_mark CloseParen) (word_said s Helper w h) (ap put (f.1.0 (name_is_part n i))) (parameters_text ps) (block_said s b))
