-- The canonical text of an expression is that of its tokens, in order.
use Rattle.std.proofs.Common.{◌≡◌, ℕ, zero, suc, ◌+◌, ◌<◌, ◌≤◌, arith, pos, List, [], ◌++◌, true, false, refl, sym, ap, ◌∙◌, append_assoc}
use Rattle.std.specs.Fmt.{signed_decimal}
use Rattle.std.proofs.lemmas.List.{append-nil}
use Rattle.fn_tree.specs.Canonical.{token as put, mark as put_mark, word as put_word, quoted, name_text, expr_text, form_text, exprs_text, entries_text, bounds_text, limit_text, order_text, operator_mark, comparison_mark, sign_mark, builtin_word}
use Rattle.fn_tree.specs.Grammar.{Parse, Takes, Bound, token, seq, turns, rule, opt}
use Rattle.fn_tree.specs.Grammar.Parse.{leaf, none, pair, in_left, in_right}
use Rattle.fn_tree.specs.Grammar.Takes.{one, nothing, both, left, right, stop, turn, call}
use Rattle.fn_tree.specs.Language.{grammar, mark, word, commas, closed_expression}
use Rattle.fn_tree.specs.LexemeValues.{slice_of, text_of, number_of, string_value}
use Rattle.fn_tree.specs.ParseTrees as tree
use Rattle.fn_tree.specs.ParseTrees.{named_of, said, said_as, is_quoted, literal_as, operator_of, compare_of, sign_of, builtin_of, joined, signed, expression_of, ors_of, conjunction_of, ands_of, comparison_of, sum_of, addends_of, term_of, factors_of, unary_of, postfix_of, suffixes_of, suffix_of, primary_of, exprs_of, more_exprs_of, maybe_exprs_of, entries_of, more_entries_of, maybe_entries_of, bounds_of, limit_of}
use Rattle.fn_tree.specs.Rules.{expression, conjunction, comparison, sum, term, unary, postfix, suffix, primary, named, builtin_call, array, object, entry, group, scan, bound, count, lookup, moment, insertion, change}
use Rattle.fn_tree.specs.Spellings.{word_text, mark_text}
use Rattle.fn_tree.specs.SyntaxTree.{Expr}
use Rattle.fn_tree.specs.Terminals.{is, is_literal, is_field_name, is_comparison, is_bound_operator, is_or, is_and, is_additive, is_multiplicative, is_sign, is_builtin, is_lookup, is_change}
use Rattle.fn_tree.specs.declared.lexeme.Lexeme.{Lexeme}
use Rattle.fn_tree.specs.declared.lexeme.Mark.{Mark}
use Rattle.fn_tree.specs.declared.lexeme.Mark.TheVariants.{OpenBrace, CloseBrace, OpenParen, CloseParen, OpenBracket, CloseBracket, Comma, Colon, Dot, Slash, Equal, NotEqual, Less, LessEqual, Greater, GreaterEqual, Plus, Minus, Star, Percent, AndAnd, OrOr, Not}
use Rattle.fn_tree.specs.declared.lexeme.Terminal.{Terminal}
use Rattle.fn_tree.specs.declared.lexeme.Terminal.TheVariants.{Name, Integer, Str, Word as Reserved, Mark as Marked}
use Rattle.fn_tree.specs.declared.lexeme.Word.{Word}
use Rattle.fn_tree.specs.declared.lexeme.Word.TheVariants.{True, False, Null, Scan, Desc, Take, Count, Get, Insert, Patch, Replace, Delete, Now, Len, Has, Push, Set, Without, Slice, Range, Show, Keys}
use Rattle.fn_tree.proofs.Tokens.{same_is}

-- ---- tokens

-- the canonical text of a token
abbrev pub written_as : Terminal → List ℕ → List ℕ
written_as Name bs = text_of bs
written_as Integer bs = signed_decimal (pos (number_of bs))
written_as Str bs = quoted (text_of (string_value bs))
written_as (Reserved w) bs = word_text w
written_as (Marked m) bs = mark_text m

abbrev pub written : List ℕ → Lexeme → List ℕ
written s c = written_as c.terminal (slice_of s c)

-- the tokens of a parse, each behind a blank
abbrev pub parse_text : List ℕ → Parse → List ℕ
parse_text s (leaf c) = put (written s c)
parse_text s none = []
parse_text s (pair a b) = parse_text s a ++ parse_text s b
parse_text s (in_left a) = parse_text s a
parse_text s (in_right a) = parse_text s a

pub name_as : (t : Terminal) (bs : List ℕ) (at : ℕ) → is_field_name t ≡ true → name_text (record { at = at; text = said_as t bs; quoted = is_quoted t }) ≡ put (written_as t bs)
unfolding name_text
name_as Name bs at h = refl
name_as Str bs at h = refl
name_as Integer bs at h = absurd (cc)
name_as (Reserved w) bs at h = absurd (cc)
name_as (Marked m) bs at h = absurd (cc)

-- a name or a string
pub field_said : (s : List ℕ) (c : Lexeme) → is_field_name c.terminal ≡ true → name_text (named_of s c) ≡ put (written s c)
field_said s c h = name_as c.terminal (slice_of s c) c.at h

pub name_said : (s : List ℕ) (c : Lexeme) → is Name c.terminal ≡ true → name_text (named_of s c) ≡ put (written s c)
name_said s c h = field_said s c (ap is_field_name (same_is Name c.terminal h))

pub string_said : (s : List ℕ) (c : Lexeme) → is Str c.terminal ≡ true → name_text (named_of s c) ≡ put (written s c)
string_said s c h = field_said s c (ap is_field_name (same_is Str c.terminal h))

pub mark_said : (s : List ℕ) (m : Mark) (c : Lexeme) → is (Marked m) c.terminal ≡ true → put_mark m ≡ put (written s c)
mark_said s m c h = sym (ap (λ t. put (written_as t (slice_of s c))) (same_is (Marked m) c.terminal h))

pub word_said : (s : List ℕ) (w : Word) (c : Lexeme) → is (Reserved w) c.terminal ≡ true → put_word w ≡ put (written s c)
word_said s w c h = sym (ap (λ t. put (written_as t (slice_of s c))) (same_is (Reserved w) c.terminal h))

-- a name as an expression or a call says it
variable_as : (t : Terminal) (bs : List ℕ) → is Name t ≡ true → put (said_as t bs) ≡ put (written_as t bs)
variable_as t bs h = rw (same_is Name t h) refl

pub variable_said : (s : List ℕ) (c : Lexeme) → is Name c.terminal ≡ true → put (said s c) ≡ put (written s c)
variable_said s c h = variable_as c.terminal (slice_of s c) h

-- ---- operators

or_said : (t : Terminal) (bs : List ℕ) → is_or t ≡ true → put_mark (operator_mark (operator_of t)) ≡ put (written_as t bs)
or_said t bs h = rw (same_is (Marked OrOr) t h) refl

and_said : (t : Terminal) (bs : List ℕ) → is_and t ≡ true → put_mark (operator_mark (operator_of t)) ≡ put (written_as t bs)
and_said t bs h = rw (same_is (Marked AndAnd) t h) refl

additive_said : (t : Terminal) (bs : List ℕ) → is_additive t ≡ true → put_mark (operator_mark (operator_of t)) ≡ put (written_as t bs)
additive_said (Marked Plus) bs h = refl
additive_said (Marked Minus) bs h = refl
additive_said _ bs h = absurd (cc)

multiplicative_said : (t : Terminal) (bs : List ℕ) → is_multiplicative t ≡ true → put_mark (operator_mark (operator_of t)) ≡ put (written_as t bs)
multiplicative_said (Marked Star) bs h = refl
multiplicative_said (Marked Slash) bs h = refl
multiplicative_said (Marked Percent) bs h = refl
multiplicative_said _ bs h = absurd (cc)

comparison_said : (t : Terminal) (bs : List ℕ) → is_comparison t ≡ true → put_mark (operator_mark (operator_of t)) ≡ put (written_as t bs)
comparison_said (Marked Equal) bs h = refl
comparison_said (Marked NotEqual) bs h = refl
comparison_said (Marked Less) bs h = refl
comparison_said (Marked LessEqual) bs h = refl
comparison_said (Marked Greater) bs h = refl
comparison_said (Marked GreaterEqual) bs h = refl
comparison_said _ bs h = absurd (cc)

bound_said : (t : Terminal) (bs : List ℕ) → is_bound_operator t ≡ true → put_mark (comparison_mark (compare_of t)) ≡ put (written_as t bs)
bound_said (Marked Equal) bs h = refl
bound_said (Marked Less) bs h = refl
bound_said (Marked LessEqual) bs h = refl
bound_said (Marked Greater) bs h = refl
bound_said (Marked GreaterEqual) bs h = refl
bound_said _ bs h = absurd (cc)

sign_said : (t : Terminal) (bs : List ℕ) → is_sign t ≡ true → put_mark (sign_mark (sign_of t)) ≡ put (written_as t bs)
sign_said (Marked Minus) bs h = refl
sign_said (Marked Not) bs h = refl
sign_said _ bs h = absurd (cc)

builtin_said : (t : Terminal) (bs : List ℕ) → is_builtin t ≡ true → put_word (builtin_word (builtin_of t)) ≡ put (written_as t bs)
builtin_said (Reserved Len) bs h = refl
builtin_said (Reserved Has) bs h = refl
builtin_said (Reserved Push) bs h = refl
builtin_said (Reserved Set) bs h = refl
builtin_said (Reserved Without) bs h = refl
builtin_said (Reserved Slice) bs h = refl
builtin_said (Reserved Range) bs h = refl
builtin_said (Reserved Show) bs h = refl
builtin_said (Reserved Keys) bs h = refl
builtin_said _ bs h = absurd (cc)

literal_said : (t : Terminal) (bs : List ℕ) → is_literal t ≡ true → form_text (literal_as t bs) ≡ put (written_as t bs)
literal_said Integer bs h = refl
literal_said Str bs h = refl
literal_said (Reserved True) bs h = refl
literal_said (Reserved False) bs h = refl
literal_said (Reserved Null) bs h = refl
literal_said _ bs h = absurd (cc)

lookup_said : (t : Terminal) (bs : List ℕ) (e : Expr) → is_lookup t ≡ true → form_text (tree.lookup_as t e) ≡ put (written_as t bs) ++ put_mark OpenParen ++ expr_text e ++ put_mark CloseParen
lookup_said (Reserved Get) bs e h = refl
lookup_said (Reserved Delete) bs e h = refl
lookup_said _ bs e h = absurd (cc)

change_said : (t : Terminal) (bs : List ℕ) (e f : Expr) → is_change t ≡ true
    → form_text (tree.change_as t e f) ≡ put (written_as t bs) ++ put_mark OpenParen ++ expr_text e ++ put_mark Comma ++ expr_text f ++ put_mark CloseParen
change_said (Reserved Patch) bs e f h = refl
change_said (Reserved Replace) bs e f h = refl
change_said _ bs e f h = absurd (cc)

-- ---- parts in order, as a tree and as a parse puts them together

pub spell2 : {a1 a2 x1 x2 : List ℕ} → a1 ≡ x1 → a2 ≡ x2 → a1 ++ a2 ≡ x1 ++ x2
spell2 p1 p2 = rw (p1, p2) (refl)

pub spell3 : {a1 a2 a3 x1 x2 x3 : List ℕ} → a1 ≡ x1 → a2 ≡ x2 → a3 ≡ x3 → (a1 ++ a2) ++ a3 ≡ x1 ++ (x2 ++ x3)
spell3 p1 p2 p3 = rw (p1, p2, p3) (simp append_assoc)

pub spell4 : {a1 a2 a3 a4 x1 x2 x3 x4 : List ℕ} → a1 ≡ x1 → a2 ≡ x2 → a3 ≡ x3 → a4 ≡ x4 → ((a1 ++ a2) ++ a3) ++ a4 ≡ x1 ++ (x2 ++ (x3 ++ x4))
spell4 p1 p2 p3 p4 = rw (p1, p2, p3, p4) (simp append_assoc)

pub spell5 : {a1 a2 a3 a4 a5 x1 x2 x3 x4 x5 : List ℕ} → a1 ≡ x1 → a2 ≡ x2 → a3 ≡ x3 → a4 ≡ x4 → a5 ≡ x5 → (((a1 ++ a2) ++ a3) ++ a4) ++ a5 ≡ x1 ++ (x2 ++ (x3 ++ (x4 ++ x5)))
spell5 p1 p2 p3 p4 p5 = rw (p1, p2, p3, p4, p5) (simp append_assoc)

pub spell6 : {a1 a2 a3 a4 a5 a6 x1 x2 x3 x4 x5 x6 : List ℕ} → a1 ≡ x1 → a2 ≡ x2 → a3 ≡ x3 → a4 ≡ x4 → a5 ≡ x5 → a6 ≡ x6 → ((((a1 ++ a2) ++ a3) ++ a4) ++ a5) ++ a6 ≡ x1 ++ (x2 ++ (x3 ++ (x4 ++ (x5 ++ x6))))
spell6 p1 p2 p3 p4 p5 p6 = rw (p1, p2, p3, p4, p5, p6) (simp append_assoc)

pub spell9 : {a1 a2 a3 a4 a5 a6 a7 a8 a9 x1 x2 x3 x4 x5 x6 x7 x8 x9 : List ℕ} → a1 ≡ x1 → a2 ≡ x2 → a3 ≡ x3 → a4 ≡ x4 → a5 ≡ x5 → a6 ≡ x6 → a7 ≡ x7 → a8 ≡ x8 → a9 ≡ x9 → (((((((a1 ++ a2) ++ a3) ++ a4) ++ a5) ++ a6) ++ a7) ++ a8) ++ a9 ≡ x1 ++ (x2 ++ (x3 ++ (x4 ++ (x5 ++ (x6 ++ (x7 ++ (x8 ++ x9)))))))
spell9 p1 p2 p3 p4 p5 p6 p7 p8 p9 = rw (p1, p2, p3, p4, p5, p6, p7, p8, p9) (simp append_assoc)

pub more_parts : {a1 a2 a3 x1 x2 x3 : List ℕ} → a1 ≡ x1 → a2 ≡ x2 → a3 ≡ x3 → (a1 ++ a2) ++ a3 ≡ (x1 ++ x2) ++ x3
more_parts p1 p2 p3 = rw (p1, p2, p3) refl

pub first_entry : {a1 a2 a3 a4 x1 x2 x3 x4 : List ℕ} → a1 ≡ x1 → a2 ≡ x2 → a3 ≡ x3 → a4 ≡ x4 → ((a1 ++ a2) ++ a3) ++ a4 ≡ (x1 ++ (x2 ++ x3)) ++ x4
first_entry p1 p2 p3 p4 = rw (p1, p2, p3, p4) (simp append_assoc)

pub more_entries : {a1 a2 a3 a4 a5 x1 x2 x3 x4 x5 : List ℕ} → a1 ≡ x1 → a2 ≡ x2 → a3 ≡ x3 → a4 ≡ x4 → a5 ≡ x5 → (((a1 ++ a2) ++ a3) ++ a4) ++ a5 ≡ (x1 ++ (x2 ++ (x3 ++ x4))) ++ x5
more_entries p1 p2 p3 p4 p5 = rw (p1, p2, p3, p4, p5) (simp append_assoc)

pub two_pairs : {a1 a2 a3 a4 a5 a6 x1 x2 x3 x4 x5 x6 : List ℕ} → a1 ≡ x1 → a2 ≡ x2 → a3 ≡ x3 → a4 ≡ x4 → a5 ≡ x5 → a6 ≡ x6 → ((((a1 ++ a2) ++ a3) ++ a4) ++ a5) ++ a6 ≡ x1 ++ (x2 ++ ((x3 ++ x4) ++ (x5 ++ x6)))
two_pairs p1 p2 p3 p4 p5 p6 = rw (p1, p2, p3, p4, p5, p6) (simp append_assoc)

pub pair_inside : {a1 a2 a3 a4 a5 a6 a7 x1 x2 x3 x4 x5 x6 x7 : List ℕ} → a1 ≡ x1 → a2 ≡ x2 → a3 ≡ x3 → a4 ≡ x4 → a5 ≡ x5 → a6 ≡ x6 → a7 ≡ x7 → (((((a1 ++ a2) ++ a3) ++ a4) ++ a5) ++ a6) ++ a7 ≡ x1 ++ (x2 ++ (x3 ++ (x4 ++ ((x5 ++ x6) ++ x7))))
pair_inside p1 p2 p3 p4 p5 p6 p7 = rw (p1, p2, p3, p4, p5, p6, p7) (simp append_assoc)

-- ---- expressions

-- a further operand
chain_step : (e o w c a b : List ℕ) → o ≡ w → c ≡ a → ((e ++ o) ++ c) ++ b ≡ e ++ ((w ++ a) ++ b)
chain_step e o w c a b p q = rw (p, q) (simp append_assoc)

-- how many parts a parse has
abbrev pub parse_size : Parse → ℕ
parse_size (pair a b) = suc (parse_size a + parse_size b)
parse_size (in_left a) = suc (parse_size a)
parse_size (in_right a) = suc (parse_size a)
parse_size a = 0

-- where it holds of the expressions inside
module _ (s : List ℕ) (n : ℕ) (ih : (a : Parse) (ts r : List Lexeme) → Takes grammar (rule expression) a ts r → parse_size a < n → expr_text (expression_of s a) ≡ parse_text s a) where
  more_text : {k : Bound} {a : Parse} {ts r : List Lexeme} → Takes grammar (turns k (seq (mark Comma) (rule expression))) a ts r → parse_size a ≤ n → exprs_text false (more_exprs_of s a) ≡ parse_text s a
  more_text stop small = refl
  more_text (turn l (both (one {c = m} h) t) u) small = more_parts (mark_said s Comma m h) (ih _ _ _ t (omega arith)) (more_text u (omega arith))

  list_text : {a : Parse} {ts r : List Lexeme} → Takes grammar (commas (rule expression)) a ts r → parse_size a ≤ n → exprs_text true (exprs_of s a) ≡ parse_text s a
  list_text (both t u) small = spell2 (ih _ _ _ t (omega arith)) (more_text u (omega arith))

  maybe_exprs_text : {a : Parse} {ts r : List Lexeme} → Takes grammar (opt (commas (rule expression))) a ts r → parse_size a ≤ n → exprs_text true (maybe_exprs_of s a) ≡ parse_text s a
  maybe_exprs_text (left t) small = list_text t (omega arith)
  maybe_exprs_text (right nothing) small = refl

  more_entries_text : {k : Bound} {a : Parse} {ts r : List Lexeme} → Takes grammar (turns k (seq (mark Comma) (rule entry))) a ts r → parse_size a ≤ n → entries_text false (more_entries_of s a) ≡ parse_text s a
  more_entries_text stop small = refl
  more_entries_text (turn l (both (one {c = z} j) (call (both (one {c = n} h) (both (one {c = m} k) t)))) u) small =
      more_entries (mark_said s Comma z j) (field_said s n h) (mark_said s Colon m k) (ih _ _ _ t (omega arith)) (more_entries_text u (omega arith))

  maybe_entries_text : {a : Parse} {ts r : List Lexeme} → Takes grammar (opt (commas (rule entry))) a ts r → parse_size a ≤ n → entries_text true (maybe_entries_of s a) ≡ parse_text s a
  maybe_entries_text (left (both (call (both (one {c = n} h) (both (one {c = m} k) t))) u)) small = first_entry (field_said s n h) (mark_said s Colon m k) (ih _ _ _ t (omega arith)) (more_entries_text u (omega arith))
  maybe_entries_text (right nothing) small = refl

  bounds_said : {k : Bound} {a : Parse} {ts r : List Lexeme} → Takes grammar (turns k (seq (mark Comma) (rule bound))) a ts r → parse_size a ≤ n → bounds_text (bounds_of s a) ≡ parse_text s a
  bounds_said stop small = refl
  bounds_said (turn l (both (one {c = z} j) (call (both (one {c = n} h) (both (one {c = m} k) t)))) u) small =
      more_entries (mark_said s Comma z j) (field_said s n h) (bound_said m.terminal (slice_of s m) k) (ih _ _ _ t (omega arith)) (bounds_said u (omega arith))

  order_said : {a : Parse} {ts r : List Lexeme} → Takes grammar (opt (word Desc)) a ts r → parse_size a ≤ n → order_text (tree.is_there a) ≡ parse_text s a
  order_said (left (one {c = w} h)) small = word_said s Desc w h
  order_said (right nothing) small = refl

  limit_said : {a : Parse} {ts r : List Lexeme} → Takes grammar (opt (seq (word Take) (seq (mark OpenParen) (closed_expression CloseParen)))) a ts r → parse_size a ≤ n → limit_text (limit_of s a) ≡ parse_text s a
  limit_said (left (both (one {c = w} h) (both (one {c = o} k) (both t (one {c = e} j))))) small = spell4 (word_said s Take w h) (mark_said s OpenParen o k) (ih _ _ _ t (omega arith)) (mark_said s CloseParen e j)
  limit_said (right nothing) small = refl

  named_text : {a : Parse} {ts r : List Lexeme} → Takes grammar (rule named) a ts r → parse_size a ≤ n → expr_text (tree.name_or_call_of s a) ≡ parse_text s a
  named_text (call (both (one {c = n} h) (left (both (one {c = o} k) (both t (one {c = e} j)))))) small = spell4 (variable_said s n h) (mark_said s OpenParen o k) (maybe_exprs_text t (omega arith)) (mark_said s CloseParen e j)
  named_text (call (both (one {c = n} h) (right nothing))) small = variable_said s n h ∙ sym (append-nil (put (written s n)))

  builtin_text : {a : Parse} {ts r : List Lexeme} → Takes grammar (rule builtin_call) a ts r → parse_size a ≤ n → expr_text (tree.builtin_call_of s a) ≡ parse_text s a
  builtin_text (call (both (one {c = w} h) (both (one {c = o} k) (both t (one {c = e} j))))) small = spell4 (builtin_said w.terminal (slice_of s w) h) (mark_said s OpenParen o k) (list_text t (omega arith)) (mark_said s CloseParen e j)

  array_text : {a : Parse} {ts r : List Lexeme} → Takes grammar (rule array) a ts r → parse_size a ≤ n → expr_text (tree.array_of s a) ≡ parse_text s a
  array_text (call (both (one {c = o} k) (both t (one {c = e} j)))) small = spell3 (mark_said s OpenBracket o k) (maybe_exprs_text t (omega arith)) (mark_said s CloseBracket e j)

  object_text : {a : Parse} {ts r : List Lexeme} → Takes grammar (rule object) a ts r → parse_size a ≤ n → expr_text (tree.object_of s a) ≡ parse_text s a
  object_text (call (both (one {c = o} k) (both t (one {c = e} j)))) small = spell3 (mark_said s OpenBrace o k) (maybe_entries_text t (omega arith)) (mark_said s CloseBrace e j)

  group_text : {a : Parse} {ts r : List Lexeme} → Takes grammar (rule group) a ts r → parse_size a ≤ n → expr_text (tree.group_of s a) ≡ parse_text s a
  group_text (call (both (one {c = o} k) (both t (one {c = e} j)))) small = spell3 (mark_said s OpenParen o k) (ih _ _ _ t (omega arith)) (mark_said s CloseParen e j)

  scan_text : {a : Parse} {ts r : List Lexeme} → Takes grammar (rule scan) a ts r → parse_size a ≤ n → expr_text (tree.scan_of s a) ≡ parse_text s a
  scan_text (call (both (one {c = w} h) (both (one {c = o} k) (both (one {c = t} i) (both (one {c = m} j) (both (one {c = x} q) (both bs (both (one {c = e} z) (both d l))))))))) small =
      spell9 (word_said s Scan w h) (mark_said s OpenParen o k) (string_said s t i) (mark_said s Comma m j) (string_said s x q) (bounds_said bs (omega arith)) (mark_said s CloseParen e z) (order_said d (omega arith)) (limit_said l (omega arith))

  count_text : {a : Parse} {ts r : List Lexeme} → Takes grammar (rule count) a ts r → parse_size a ≤ n → expr_text (tree.count_of s a) ≡ parse_text s a
  count_text (call (both (one {c = w} h) (both (one {c = o} k) (both (one {c = t} i) (one {c = e} j))))) small = spell4 (word_said s Count w h) (mark_said s OpenParen o k) (string_said s t i) (mark_said s CloseParen e j)

  lookup_text : {a : Parse} {ts r : List Lexeme} → Takes grammar (rule lookup) a ts r → parse_size a ≤ n → expr_text (tree.lookup_of s a) ≡ parse_text s a
  lookup_text (call (both (one {c = w} h) (both (one {c = o} k) (both {a = a} t (one {c = e} j))))) small =
      lookup_said w.terminal (slice_of s w) (expression_of s a) h ∙ spell4 {a1 = put (written s w)} refl (mark_said s OpenParen o k) (ih _ _ _ t (omega arith)) (mark_said s CloseParen e j)

  moment_text : {a : Parse} {ts r : List Lexeme} → Takes grammar (rule moment) a ts r → parse_size a ≤ n → expr_text (tree.moment_of a) ≡ parse_text s a
  moment_text (call (both (one {c = w} h) (both (one {c = o} k) (one {c = e} j)))) small = spell3 (word_said s Now w h) (mark_said s OpenParen o k) (mark_said s CloseParen e j)

  insertion_text : {a : Parse} {ts r : List Lexeme} → Takes grammar (rule insertion) a ts r → parse_size a ≤ n → expr_text (tree.insertion_of s a) ≡ parse_text s a
  insertion_text (call (both (one {c = w} h) (both (one {c = o} k) (both (one {c = t} i) (both (one {c = m} z) (both u (one {c = e} j))))))) small =
      spell6 (word_said s Insert w h) (mark_said s OpenParen o k) (string_said s t i) (mark_said s Comma m z) (ih _ _ _ u (omega arith)) (mark_said s CloseParen e j)

  change_text : {a : Parse} {ts r : List Lexeme} → Takes grammar (rule change) a ts r → parse_size a ≤ n → expr_text (tree.change_of s a) ≡ parse_text s a
  change_text (call (both (one {c = w} h) (both (one {c = o} k) (both (both {a = a} t (one {c = m} z)) (both {a = b} u (one {c = e} j)))))) small =
      change_said w.terminal (slice_of s w) (expression_of s a) (expression_of s b) h
      ∙ two_pairs {a1 = put (written s w)} refl (mark_said s OpenParen o k) (ih _ _ _ t (omega arith)) (mark_said s Comma m z) (ih _ _ _ u (omega arith)) (mark_said s CloseParen e j)

  primary_text : {a : Parse} {ts r : List Lexeme} → Takes grammar (rule primary) a ts r → parse_size a ≤ n → expr_text (primary_of s a) ≡ parse_text s a
  primary_text (call (left (one {c = c} h))) small = literal_said c.terminal (slice_of s c) h
  primary_text (call (right (left t))) small = named_text t (omega arith)
  primary_text (call (right (right (left t)))) small = builtin_text t (omega arith)
  primary_text (call (right (right (right (left t))))) small = array_text t (omega arith)
  primary_text (call (right (right (right (right (left t)))))) small = object_text t (omega arith)
  primary_text (call (right (right (right (right (right (left t))))))) small = group_text t (omega arith)
  primary_text (call (right (right (right (right (right (right (left t)))))))) small = scan_text t (omega arith)
  primary_text (call (right (right (right (right (right (right (right (left t))))))))) small = count_text t (omega arith)
  primary_text (call (right (right (right (right (right (right (right (right (left t)))))))))) small = lookup_text t (omega arith)
  primary_text (call (right (right (right (right (right (right (right (right (right (left t))))))))))) small = moment_text t (omega arith)
  primary_text (call (right (right (right (right (right (right (right (right (right (right (left t)))))))))))) small = insertion_text t (omega arith)
  primary_text (call (right (right (right (right (right (right (right (right (right (right (right t)))))))))))) small = change_text t (omega arith)

  suffix_text : {a : Parse} {ts r : List Lexeme} (e : Expr) → Takes grammar (rule suffix) a ts r → parse_size a ≤ n → expr_text (suffix_of s e a) ≡ expr_text e ++ parse_text s a
  suffix_text e (call (left (both (one {c = d} h) (one {c = n} k)))) small = spell3 {a1 = expr_text e} refl (mark_said s Dot d h) (name_said s n k)
  suffix_text e (call (right (both (one {c = o} h) (both t (one {c = k} j))))) small = spell4 {a1 = expr_text e} refl (mark_said s OpenBracket o h) (ih _ _ _ t (omega arith)) (mark_said s CloseBracket k j)

  suffixes_text : {k : Bound} {b : Parse} {ts r : List Lexeme} (e : Expr) → Takes grammar (turns k (rule suffix)) b ts r → parse_size b ≤ n → expr_text (suffixes_of s e b) ≡ expr_text e ++ parse_text s b
  suffixes_text e stop small = sym (append-nil (expr_text e))
  suffixes_text e (turn {a = a} {b = b} l t u) small =
      suffixes_text (suffix_of s e a) u (omega arith) ∙ ap (λ x. x ++ parse_text s b) (suffix_text e t (omega arith)) ∙ append_assoc (expr_text e) (parse_text s a) (parse_text s b)

  postfix_text : {a : Parse} {ts r : List Lexeme} → Takes grammar (rule postfix) a ts r → parse_size a ≤ n → expr_text (postfix_of s a) ≡ parse_text s a
  postfix_text (call (both {a = a} {b = b} t u)) small = suffixes_text (primary_of s a) u (omega arith) ∙ ap (λ x. x ++ parse_text s b) (primary_text t (omega arith))

  signs_text : {k : Bound} {b : Parse} {ts r : List Lexeme} (e : Expr) → Takes grammar (turns k (token is_sign)) b ts r → parse_size b ≤ n → expr_text (signed b e) ≡ parse_text s b ++ expr_text e
  signs_text e stop small = refl
  signs_text e (turn {b = b} l (one {c = c} h) u) small =
      ap (λ x. x ++ expr_text (signed b e)) (sign_said c.terminal (slice_of s c) h) ∙ ap (λ x. put (written s c) ++ x) (signs_text e u (omega arith))
      ∙ sym (append_assoc (put (written s c)) (parse_text s b) (expr_text e))

  unary_text : {a : Parse} {ts r : List Lexeme} → Takes grammar (rule unary) a ts r → parse_size a ≤ n → expr_text (unary_of s a) ≡ parse_text s a
  unary_text (call (both {a = signs} {b = b} t u)) small = signs_text (postfix_of s b) t (omega arith) ∙ ap (λ x. parse_text s signs ++ x) (postfix_text u (omega arith))

  factors_text : {k : Bound} {b : Parse} {ts r : List Lexeme} (e : Expr) → Takes grammar (turns k (seq (token is_multiplicative) (rule unary))) b ts r → parse_size b ≤ n → expr_text (factors_of s e b) ≡ expr_text e ++ parse_text s b
  factors_text e stop small = sym (append-nil (expr_text e))
  factors_text e (turn {b = b} l (both {b = a} (one {c = c} h) t) u) small =
      factors_text (joined e c (unary_of s a)) u (omega arith) ∙ chain_step (expr_text e) _ (put (written s c)) _ (parse_text s a) (parse_text s b) (multiplicative_said c.terminal (slice_of s c) h) (unary_text t (omega arith))

  term_text : {a : Parse} {ts r : List Lexeme} → Takes grammar (rule term) a ts r → parse_size a ≤ n → expr_text (term_of s a) ≡ parse_text s a
  term_text (call (both {a = a} {b = b} t u)) small = factors_text (unary_of s a) u (omega arith) ∙ ap (λ x. x ++ parse_text s b) (unary_text t (omega arith))

  addends_text : {k : Bound} {b : Parse} {ts r : List Lexeme} (e : Expr) → Takes grammar (turns k (seq (token is_additive) (rule term))) b ts r → parse_size b ≤ n → expr_text (addends_of s e b) ≡ expr_text e ++ parse_text s b
  addends_text e stop small = sym (append-nil (expr_text e))
  addends_text e (turn {b = b} l (both {b = a} (one {c = c} h) t) u) small =
      addends_text (joined e c (term_of s a)) u (omega arith) ∙ chain_step (expr_text e) _ (put (written s c)) _ (parse_text s a) (parse_text s b) (additive_said c.terminal (slice_of s c) h) (term_text t (omega arith))

  sum_text : {a : Parse} {ts r : List Lexeme} → Takes grammar (rule sum) a ts r → parse_size a ≤ n → expr_text (sum_of s a) ≡ parse_text s a
  sum_text (call (both {a = a} {b = b} t u)) small = addends_text (term_of s a) u (omega arith) ∙ ap (λ x. x ++ parse_text s b) (term_text t (omega arith))

  comparison_text : {a : Parse} {ts r : List Lexeme} → Takes grammar (rule comparison) a ts r → parse_size a ≤ n → expr_text (comparison_of s a) ≡ parse_text s a
  comparison_text (call (both t (left (both (one {c = c} h) u)))) small = spell3 (sum_text t (omega arith)) (comparison_said c.terminal (slice_of s c) h) (sum_text u (omega arith))
  comparison_text (call (both {a = a} t (right nothing))) small = sum_text t (omega arith) ∙ sym (append-nil (parse_text s a))

  ands_text : {k : Bound} {b : Parse} {ts r : List Lexeme} (e : Expr) → Takes grammar (turns k (seq (token is_and) (rule comparison))) b ts r → parse_size b ≤ n → expr_text (ands_of s e b) ≡ expr_text e ++ parse_text s b
  ands_text e stop small = sym (append-nil (expr_text e))
  ands_text e (turn {b = b} l (both {b = a} (one {c = c} h) t) u) small =
      ands_text (joined e c (comparison_of s a)) u (omega arith) ∙ chain_step (expr_text e) _ (put (written s c)) _ (parse_text s a) (parse_text s b) (and_said c.terminal (slice_of s c) h) (comparison_text t (omega arith))

  conjunction_text : {a : Parse} {ts r : List Lexeme} → Takes grammar (rule conjunction) a ts r → parse_size a ≤ n → expr_text (conjunction_of s a) ≡ parse_text s a
  conjunction_text (call (both {a = a} {b = b} t u)) small = ands_text (comparison_of s a) u (omega arith) ∙ ap (λ x. x ++ parse_text s b) (comparison_text t (omega arith))

  ors_text : {k : Bound} {b : Parse} {ts r : List Lexeme} (e : Expr) → Takes grammar (turns k (seq (token is_or) (rule conjunction))) b ts r → parse_size b ≤ n → expr_text (ors_of s e b) ≡ expr_text e ++ parse_text s b
  ors_text e stop small = sym (append-nil (expr_text e))
  ors_text e (turn {b = b} l (both {b = a} (one {c = c} h) t) u) small =
      ors_text (joined e c (conjunction_of s a)) u (omega arith) ∙ chain_step (expr_text e) _ (put (written s c)) _ (parse_text s a) (parse_text s b) (or_said c.terminal (slice_of s c) h) (conjunction_text t (omega arith))

  expression_step : {a : Parse} {ts r : List Lexeme} → Takes grammar (rule expression) a ts r → parse_size a ≤ n → expr_text (expression_of s a) ≡ parse_text s a
  expression_step (call (both {a = a} {b = b} t u)) small = ors_text (conjunction_of s a) u (omega arith) ∙ ap (λ x. x ++ parse_text s b) (conjunction_text t (omega arith))

-- so far as a size
upto : (s : List ℕ) (n : ℕ) (a : Parse) (ts r : List Lexeme) → Takes grammar (rule expression) a ts r → parse_size a < n → expr_text (expression_of s a) ≡ parse_text s a
upto s zero a ts r t h = absurd (omega arith)
upto s (suc n) a ts r t h = expression_step s n (upto s n) t (omega arith)

-- the canonical text of an expression is that of its tokens
pub expression_text : (s : List ℕ) {a : Parse} {ts r : List Lexeme} → Takes grammar (rule expression) a ts r → expr_text (expression_of s a) ≡ parse_text s a
expression_text s {a = a} {ts = ts} {r = r} t = upto s (suc (parse_size a)) a ts r t (omega arith)
