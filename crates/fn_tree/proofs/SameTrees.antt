-- Parses of tokens that are the same say the same expressions, up to places.
use Rattle.std.proofs.Common.{◌≡◌, ℕ, zero, suc, ◌<◌, ◌≤◌, arith, List, refl, sym, ap, ◌∙◌}
use Rattle.fn_tree.specs.Grammar.{Parse, Takes, Bound, token, seq, turns, rule, opt}
use Rattle.fn_tree.specs.Grammar.Takes.{one, nothing, both, left, right, stop, turn, call}
use Rattle.fn_tree.specs.Language.{grammar, mark, word, commas, closed_expression}
use Rattle.fn_tree.specs.ParseTrees as tree
use Rattle.fn_tree.specs.ParseTrees.{named_of, operator_of, compare_of, sign_of, builtin_of, joined, signed, expression_of, ors_of, conjunction_of, ands_of, comparison_of, sum_of, addends_of, term_of, factors_of, unary_of, postfix_of, suffixes_of, suffix_of, primary_of, exprs_of, more_exprs_of, maybe_exprs_of, entries_of, more_entries_of, maybe_entries_of, bounds_of, limit_of}
use Rattle.fn_tree.specs.Placeless.{placeless_name, placeless_expr, placeless_form, placeless_exprs, placeless_entries, placeless_bounds, placeless_limit}
use Rattle.fn_tree.specs.Rules as rules
use Rattle.fn_tree.specs.SyntaxTree as plain
use Rattle.fn_tree.specs.SyntaxTree.{Expr, then_expr}
use Rattle.fn_tree.specs.Terminals.{is_or, is_and, is_additive, is_multiplicative, is_sign}
use Rattle.fn_tree.specs.declared.lexeme.Lexeme.{Lexeme}
use Rattle.fn_tree.specs.declared.lexeme.Mark.TheVariants.{OpenParen, CloseParen, Comma}
use Rattle.fn_tree.specs.declared.lexeme.Terminal.{Terminal}
use Rattle.fn_tree.specs.declared.lexeme.Terminal.TheVariants.{Word as Reserved}
use Rattle.fn_tree.specs.declared.lexeme.Word.TheVariants.{Desc, Take, Get, Patch}
use Rattle.fn_tree.proofs.Alike.{Same, Alike}
use Rattle.fn_tree.proofs.Alike.Alike.{leaves, nones, pairs, lefts, rights}
use Rattle.fn_tree.proofs.TreeTexts.{parse_size}

pub cong2 : {A B C : Type 0} (f : A → B → C) {a b : A} {x y : B} → a ≡ b → x ≡ y → f a x ≡ f b y
cong2 f {b = b} {x = x} p q = ap (λ u. f u x) p ∙ ap (f b) q

pub cong3 : {A B C D : Type 0} (f : A → B → C → D) {a b : A} {x y : B} {u v : C} → a ≡ b → x ≡ y → u ≡ v → f a x u ≡ f b y v
cong3 f {b = b} {x = x} {u = u} p q r = ap (λ k. f k x u) p ∙ cong2 (f b) q r

pub cong4 : {A B C D E : Type 0} (f : A → B → C → D → E) {a b : A} {x y : B} {u v : C} {j k : D} → a ≡ b → x ≡ y → u ≡ v → j ≡ k → f a x u j ≡ f b y v k
cong4 f {b = b} {x = x} {u = u} {j = j} p q r o = ap (λ k. f k x u j) p ∙ cong3 (f b) q r o

pub cong5 : {A B C D E F : Type 0} (f : A → B → C → D → E → F) {a b : A} {x y : B} {u v : C} {j k : D} {l m : E} → a ≡ b → x ≡ y → u ≡ v → j ≡ k → l ≡ m → f a x u j l ≡ f b y v k m
cong5 f {b = b} {x = x} {u = u} {j = j} {l = l} p q r o w = ap (λ k. f k x u j l) p ∙ cong4 (f b) q r o w

pub same_name : {s z : List ℕ} {c d : Lexeme} → Same s z c d → placeless_name (named_of s c) ≡ placeless_name (named_of z d)
same_name e = cong2 (λ x t. record { at = 0; text = x; quoted = tree.is_quoted t }) e.text e.terminal

joined_same : {s z : List ℕ} {c d : Lexeme} (e f g h : Expr) → placeless_expr e ≡ placeless_expr f → Same s z c d → placeless_expr g ≡ placeless_expr h → placeless_expr (joined e c g) ≡ placeless_expr (joined f d h)
joined_same e f g h p k q = cong3 (λ o x y. plain.expr 0 (plain.binary o x y)) (ap operator_of k.terminal) p q

lookup_places : (t : Terminal) (e : Expr) → placeless_form (tree.lookup_as t e) ≡ tree.lookup_as t (placeless_expr e)
lookup_places (Reserved Get) e = refl
lookup_places _ e = refl

change_places : (t : Terminal) (e f : Expr) → placeless_form (tree.change_as t e f) ≡ tree.change_as t (placeless_expr e) (placeless_expr f)
change_places (Reserved Patch) e f = refl
change_places _ e f = refl

module _ (s z : List ℕ) (n : ℕ) (ih : (a b : Parse) (ts r : List Lexeme) → Takes grammar (rule rules.expression) a ts r → Alike s z a b → parse_size a < n → placeless_expr (expression_of s a) ≡ placeless_expr (expression_of z b)) where
  more : {k : Bound} {a q : Parse} {ts r : List Lexeme} → Takes grammar (turns k (seq (mark Comma) (rule rules.expression))) a ts r → Alike s z a q → parse_size a ≤ n → placeless_exprs (more_exprs_of s a) ≡ placeless_exprs (more_exprs_of z q)
  more stop nones small = refl
  more (turn l (both (one {c = m} h) t) u) (pairs (pairs (leaves m') t') u') small = cong2 then_expr (ih _ _ _ _ t t' (omega arith)) (more u u' (omega arith))

  list : {a q : Parse} {ts r : List Lexeme} → Takes grammar (commas (rule rules.expression)) a ts r → Alike s z a q → parse_size a ≤ n → placeless_exprs (exprs_of s a) ≡ placeless_exprs (exprs_of z q)
  list (both t u) (pairs t' u') small = cong2 then_expr (ih _ _ _ _ t t' (omega arith)) (more u u' (omega arith))

  maybe_exprs : {a q : Parse} {ts r : List Lexeme} → Takes grammar (opt (commas (rule rules.expression))) a ts r → Alike s z a q → parse_size a ≤ n → placeless_exprs (maybe_exprs_of s a) ≡ placeless_exprs (maybe_exprs_of z q)
  maybe_exprs (left t) (lefts t') small = list t t' (omega arith)
  maybe_exprs (right nothing) (rights nones) small = refl

  more_entries : {k : Bound} {a q : Parse} {ts r : List Lexeme} → Takes grammar (turns k (seq (mark Comma) (rule rules.entry))) a ts r → Alike s z a q → parse_size a ≤ n → placeless_entries (more_entries_of s a) ≡ placeless_entries (more_entries_of z q)
  more_entries stop nones small = refl
  more_entries (turn l (both (one {c = z} j) (call (both (one {c = n} h) (both (one {c = m} k) t)))) u) (pairs (pairs (leaves z') (pairs (leaves n') (pairs (leaves m') t'))) u') small = cong3 plain.entry (same_name n') (ih _ _ _ _ t t' (omega arith)) (more_entries u u' (omega arith))

  maybe_entries : {a q : Parse} {ts r : List Lexeme} → Takes grammar (opt (commas (rule rules.entry))) a ts r → Alike s z a q → parse_size a ≤ n → placeless_entries (maybe_entries_of s a) ≡ placeless_entries (maybe_entries_of z q)
  maybe_entries (left (both (call (both (one {c = n} h) (both (one {c = m} k) t))) u)) (lefts (pairs (pairs (leaves n') (pairs (leaves m') t')) u')) small = cong3 plain.entry (same_name n') (ih _ _ _ _ t t' (omega arith)) (more_entries u u' (omega arith))
  maybe_entries (right nothing) (rights nones) small = refl

  bounds : {k : Bound} {a q : Parse} {ts r : List Lexeme} → Takes grammar (turns k (seq (mark Comma) (rule rules.bound))) a ts r → Alike s z a q → parse_size a ≤ n → placeless_bounds (bounds_of s a) ≡ placeless_bounds (bounds_of z q)
  bounds stop nones small = refl
  bounds (turn l (both (one {c = z} j) (call (both (one {c = n} h) (both (one {c = m} k) t)))) u) (pairs (pairs (leaves z') (pairs (leaves n') (pairs (leaves m') t'))) u') small = cong4 plain.bound (same_name n') (ap compare_of m'.terminal) (ih _ _ _ _ t t' (omega arith)) (bounds u u' (omega arith))

  order : {a q : Parse} {ts r : List Lexeme} → Takes grammar (opt (word Desc)) a ts r → Alike s z a q → parse_size a ≤ n → tree.is_there a ≡ tree.is_there q
  order (left (one {c = w} h)) (lefts (leaves w')) small = refl
  order (right nothing) (rights nones) small = refl

  limit : {a q : Parse} {ts r : List Lexeme} → Takes grammar (opt (seq (word Take) (seq (mark OpenParen) (closed_expression CloseParen)))) a ts r → Alike s z a q → parse_size a ≤ n → placeless_limit (limit_of s a) ≡ placeless_limit (limit_of z q)
  limit (left (both (one {c = w} h) (both (one {c = o} k) (both t (one {c = e} j))))) (lefts (pairs (leaves w') (pairs (leaves o') (pairs t' (leaves e'))))) small = ap plain.up_to (ih _ _ _ _ t t' (omega arith))
  limit (right nothing) (rights nones) small = refl

  named : {a q : Parse} {ts r : List Lexeme} → Takes grammar (rule rules.named) a ts r → Alike s z a q → parse_size a ≤ n → placeless_expr (tree.name_or_call_of s a) ≡ placeless_expr (tree.name_or_call_of z q)
  named (call (both (one {c = n} h) (left (both (one {c = o} k) (both t (one {c = e} j)))))) (pairs (leaves n') (lefts (pairs (leaves o') (pairs t' (leaves e'))))) small = cong2 (λ x y. plain.expr 0 (plain.call x y)) n'.text (maybe_exprs t t' (omega arith))
  named (call (both (one {c = n} h) (right nothing))) (pairs (leaves n') (rights nones)) small = ap (λ x. plain.expr 0 (plain.variable x)) n'.text

  builtin : {a q : Parse} {ts r : List Lexeme} → Takes grammar (rule rules.builtin_call) a ts r → Alike s z a q → parse_size a ≤ n → placeless_expr (tree.builtin_call_of s a) ≡ placeless_expr (tree.builtin_call_of z q)
  builtin (call (both (one {c = w} h) (both (one {c = o} k) (both t (one {c = e} j))))) (pairs (leaves w') (pairs (leaves o') (pairs t' (leaves e')))) small = cong2 (λ x y. plain.expr 0 (plain.builtin x y)) (ap builtin_of w'.terminal) (list t t' (omega arith))

  array : {a q : Parse} {ts r : List Lexeme} → Takes grammar (rule rules.array) a ts r → Alike s z a q → parse_size a ≤ n → placeless_expr (tree.array_of s a) ≡ placeless_expr (tree.array_of z q)
  array (call (both (one {c = o} k) (both t (one {c = e} j)))) (pairs (leaves o') (pairs t' (leaves e'))) small = ap (λ x. plain.expr 0 (plain.items x)) (maybe_exprs t t' (omega arith))

  object : {a q : Parse} {ts r : List Lexeme} → Takes grammar (rule rules.object) a ts r → Alike s z a q → parse_size a ≤ n → placeless_expr (tree.object_of s a) ≡ placeless_expr (tree.object_of z q)
  object (call (both (one {c = o} k) (both t (one {c = e} j)))) (pairs (leaves o') (pairs t' (leaves e'))) small = ap (λ x. plain.expr 0 (plain.entries x)) (maybe_entries t t' (omega arith))

  group : {a q : Parse} {ts r : List Lexeme} → Takes grammar (rule rules.group) a ts r → Alike s z a q → parse_size a ≤ n → placeless_expr (tree.group_of s a) ≡ placeless_expr (tree.group_of z q)
  group (call (both (one {c = o} k) (both t (one {c = e} j)))) (pairs (leaves o') (pairs t' (leaves e'))) small = ap (λ x. plain.expr 0 (plain.group x)) (ih _ _ _ _ t t' (omega arith))

  scan : {a q : Parse} {ts r : List Lexeme} → Takes grammar (rule rules.scan) a ts r → Alike s z a q → parse_size a ≤ n → placeless_expr (tree.scan_of s a) ≡ placeless_expr (tree.scan_of z q)
  scan (call (both (one {c = w} h) (both (one {c = o} k) (both (one {c = t} i) (both (one {c = m} j) (both (one {c = x} q) (both bs (both (one {c = e} z) (both d l))))))))) (pairs (leaves w') (pairs (leaves o') (pairs (leaves t') (pairs (leaves m') (pairs (leaves x') (pairs bs' (pairs (leaves e') (pairs d' l')))))))) small = cong5 (λ x y v d l. plain.expr 0 (plain.scan x y v d l)) (same_name t') (same_name x') (bounds bs bs' (omega arith)) (order d d' (omega arith)) (limit l l' (omega arith))

  count : {a q : Parse} {ts r : List Lexeme} → Takes grammar (rule rules.count) a ts r → Alike s z a q → parse_size a ≤ n → placeless_expr (tree.count_of s a) ≡ placeless_expr (tree.count_of z q)
  count (call (both (one {c = w} h) (both (one {c = o} k) (both (one {c = t} i) (one {c = e} j))))) (pairs (leaves w') (pairs (leaves o') (pairs (leaves t') (leaves e')))) small = ap (λ x. plain.expr 0 (plain.count x)) (same_name t')

  lookup : {a q : Parse} {ts r : List Lexeme} → Takes grammar (rule rules.lookup) a ts r → Alike s z a q → parse_size a ≤ n → placeless_expr (tree.lookup_of s a) ≡ placeless_expr (tree.lookup_of z q)
  lookup (call (both (one {c = w} h) (both (one {c = o} k) (both {a = a} t (one {c = e} j))))) (pairs (leaves {d = v} w') (pairs (leaves o') (pairs {p = y} t' (leaves e')))) small =
      ap (plain.expr 0) (lookup_places w.terminal (expression_of s a) ∙ cong2 tree.lookup_as w'.terminal (ih _ _ _ _ t t' (omega arith)) ∙ sym (lookup_places v.terminal (expression_of z y)))

  moment : {a q : Parse} {ts r : List Lexeme} → Takes grammar (rule rules.moment) a ts r → Alike s z a q → parse_size a ≤ n → placeless_expr (tree.moment_of a) ≡ placeless_expr (tree.moment_of q)
  moment (call (both (one {c = w} h) (both (one {c = o} k) (one {c = e} j)))) (pairs (leaves w') (pairs (leaves o') (leaves e'))) small = refl

  insertion : {a q : Parse} {ts r : List Lexeme} → Takes grammar (rule rules.insertion) a ts r → Alike s z a q → parse_size a ≤ n → placeless_expr (tree.insertion_of s a) ≡ placeless_expr (tree.insertion_of z q)
  insertion (call (both (one {c = w} h) (both (one {c = o} k) (both (one {c = t} i) (both (one {c = m} z) (both u (one {c = e} j))))))) (pairs (leaves w') (pairs (leaves o') (pairs (leaves t') (pairs (leaves m') (pairs u' (leaves e')))))) small = cong2 (λ x y. plain.expr 0 (plain.insert x y)) (same_name t') (ih _ _ _ _ u u' (omega arith))

  change : {a q : Parse} {ts r : List Lexeme} → Takes grammar (rule rules.change) a ts r → Alike s z a q → parse_size a ≤ n → placeless_expr (tree.change_of s a) ≡ placeless_expr (tree.change_of z q)
  change (call (both (one {c = w} h) (both (one {c = o} k) (both (both {a = a} t (one {c = m} i)) (both {a = b} u (one {c = e} j)))))) (pairs (leaves {d = v} w') (pairs (leaves o') (pairs (pairs {p = x} t' (leaves m')) (pairs {p = y} u' (leaves e'))))) small =
      ap (plain.expr 0) (change_places w.terminal (expression_of s a) (expression_of s b) ∙ cong3 tree.change_as w'.terminal (ih _ _ _ _ t t' (omega arith)) (ih _ _ _ _ u u' (omega arith)) ∙ sym (change_places v.terminal (expression_of z x) (expression_of z y)))

  primary : {a q : Parse} {ts r : List Lexeme} → Takes grammar (rule rules.primary) a ts r → Alike s z a q → parse_size a ≤ n → placeless_expr (primary_of s a) ≡ placeless_expr (primary_of z q)
  primary (call (left (one {c = c} h))) (lefts (leaves c')) small = ap (λ f. plain.expr 0 (placeless_form f)) c'.literal
  primary (call (right (left t))) (rights (lefts t')) small = named t t' (omega arith)
  primary (call (right (right (left t)))) (rights (rights (lefts t'))) small = builtin t t' (omega arith)
  primary (call (right (right (right (left t))))) (rights (rights (rights (lefts t')))) small = array t t' (omega arith)
  primary (call (right (right (right (right (left t)))))) (rights (rights (rights (rights (lefts t'))))) small = object t t' (omega arith)
  primary (call (right (right (right (right (right (left t))))))) (rights (rights (rights (rights (rights (lefts t')))))) small = group t t' (omega arith)
  primary (call (right (right (right (right (right (right (left t)))))))) (rights (rights (rights (rights (rights (rights (lefts t'))))))) small = scan t t' (omega arith)
  primary (call (right (right (right (right (right (right (right (left t))))))))) (rights (rights (rights (rights (rights (rights (rights (lefts t')))))))) small = count t t' (omega arith)
  primary (call (right (right (right (right (right (right (right (right (left t)))))))))) (rights (rights (rights (rights (rights (rights (rights (rights (lefts t'))))))))) small = lookup t t' (omega arith)
  primary (call (right (right (right (right (right (right (right (right (right (left t))))))))))) (rights (rights (rights (rights (rights (rights (rights (rights (rights (lefts t')))))))))) small = moment t t' (omega arith)
  primary (call (right (right (right (right (right (right (right (right (right (right (left t)))))))))))) (rights (rights (rights (rights (rights (rights (rights (rights (rights (rights (lefts t'))))))))))) small = insertion t t' (omega arith)
  primary (call (right (right (right (right (right (right (right (right (right (right (right t)))))))))))) (rights (rights (rights (rights (rights (rights (rights (rights (rights (rights (rights t'))))))))))) small = change t t' (omega arith)

  suffix : {a q : Parse} {ts r : List Lexeme} (e f : Expr) → placeless_expr e ≡ placeless_expr f → Takes grammar (rule rules.suffix) a ts r → Alike s z a q → parse_size a ≤ n → placeless_expr (suffix_of s e a) ≡ placeless_expr (suffix_of z f q)
  suffix e f p (call (left (both (one {c = d} h) (one {c = n} k)))) (lefts (pairs (leaves d') (leaves n'))) small = cong2 (λ x y. plain.expr 0 (plain.field x y)) p (same_name n')
  suffix e f p (call (right (both (one {c = o} h) (both t (one {c = k} j))))) (rights (pairs (leaves o') (pairs t' (leaves k')))) small = cong2 (λ x y. plain.expr 0 (plain.item x y)) p (ih _ _ _ _ t t' (omega arith))

  suffixes : {k : Bound} {b q : Parse} {ts r : List Lexeme} (e f : Expr) → placeless_expr e ≡ placeless_expr f → Takes grammar (turns k (rule rules.suffix)) b ts r → Alike s z b q → parse_size b ≤ n → placeless_expr (suffixes_of s e b) ≡ placeless_expr (suffixes_of z f q)
  suffixes e f p stop nones small = p
  suffixes e f p (turn {a = a} l t u) (pairs {p = y} t' u') small = suffixes (suffix_of s e a) (suffix_of z f y) (suffix e f p t t' (omega arith)) u u' (omega arith)

  postfix : {a q : Parse} {ts r : List Lexeme} → Takes grammar (rule rules.postfix) a ts r → Alike s z a q → parse_size a ≤ n → placeless_expr (postfix_of s a) ≡ placeless_expr (postfix_of z q)
  postfix (call (both {a = a} t u)) (pairs {p = y} t' u') small = suffixes (primary_of s a) (primary_of z y) (primary t t' (omega arith)) u u' (omega arith)

  signs : {k : Bound} {b q : Parse} {ts r : List Lexeme} (e f : Expr) → placeless_expr e ≡ placeless_expr f → Takes grammar (turns k (token is_sign)) b ts r → Alike s z b q → parse_size b ≤ n → placeless_expr (signed b e) ≡ placeless_expr (signed q f)
  signs e f p stop nones small = p
  signs e f p (turn l (one {c = c} h) u) (pairs (leaves c') u') small = cong2 (λ x y. plain.expr 0 (plain.unary x y)) (ap sign_of c'.terminal) (signs e f p u u' (omega arith))

  unary : {a q : Parse} {ts r : List Lexeme} → Takes grammar (rule rules.unary) a ts r → Alike s z a q → parse_size a ≤ n → placeless_expr (unary_of s a) ≡ placeless_expr (unary_of z q)
  unary (call (both {b = b} t u)) (pairs {q = y} t' u') small = signs (postfix_of s b) (postfix_of z y) (postfix u u' (omega arith)) t t' (omega arith)

  factors : {k : Bound} {b q : Parse} {ts r : List Lexeme} (e f : Expr) → placeless_expr e ≡ placeless_expr f → Takes grammar (turns k (seq (token is_multiplicative) (rule rules.unary))) b ts r → Alike s z b q → parse_size b ≤ n → placeless_expr (factors_of s e b) ≡ placeless_expr (factors_of z f q)
  factors e f p stop nones small = p
  factors e f p (turn l (both {b = a} (one {c = c} h) t) u) (pairs (pairs {q = y} (leaves {d = d} c') t') u') small =
      factors (joined e c (unary_of s a)) (joined f d (unary_of z y)) (joined_same e f (unary_of s a) (unary_of z y) p c' (unary t t' (omega arith))) u u' (omega arith)

  term : {a q : Parse} {ts r : List Lexeme} → Takes grammar (rule rules.term) a ts r → Alike s z a q → parse_size a ≤ n → placeless_expr (term_of s a) ≡ placeless_expr (term_of z q)
  term (call (both {a = a} t u)) (pairs {p = y} t' u') small = factors (unary_of s a) (unary_of z y) (unary t t' (omega arith)) u u' (omega arith)

  addends : {k : Bound} {b q : Parse} {ts r : List Lexeme} (e f : Expr) → placeless_expr e ≡ placeless_expr f → Takes grammar (turns k (seq (token is_additive) (rule rules.term))) b ts r → Alike s z b q → parse_size b ≤ n → placeless_expr (addends_of s e b) ≡ placeless_expr (addends_of z f q)
  addends e f p stop nones small = p
  addends e f p (turn l (both {b = a} (one {c = c} h) t) u) (pairs (pairs {q = y} (leaves {d = d} c') t') u') small =
      addends (joined e c (term_of s a)) (joined f d (term_of z y)) (joined_same e f (term_of s a) (term_of z y) p c' (term t t' (omega arith))) u u' (omega arith)

  sum : {a q : Parse} {ts r : List Lexeme} → Takes grammar (rule rules.sum) a ts r → Alike s z a q → parse_size a ≤ n → placeless_expr (sum_of s a) ≡ placeless_expr (sum_of z q)
  sum (call (both {a = a} t u)) (pairs {p = y} t' u') small = addends (term_of s a) (term_of z y) (term t t' (omega arith)) u u' (omega arith)

  comparison : {a q : Parse} {ts r : List Lexeme} → Takes grammar (rule rules.comparison) a ts r → Alike s z a q → parse_size a ≤ n → placeless_expr (comparison_of s a) ≡ placeless_expr (comparison_of z q)
  comparison (call (both {a = a} t (left (both {b = b} (one {c = c} h) u)))) (pairs {p = x} t' (lefts (pairs {q = y} (leaves c') u'))) small =
      joined_same (sum_of s a) (sum_of z x) (sum_of s b) (sum_of z y) (sum t t' (omega arith)) c' (sum u u' (omega arith))
  comparison (call (both t (right nothing))) (pairs t' (rights nones)) small = sum t t' (omega arith)

  ands : {k : Bound} {b q : Parse} {ts r : List Lexeme} (e f : Expr) → placeless_expr e ≡ placeless_expr f → Takes grammar (turns k (seq (token is_and) (rule rules.comparison))) b ts r → Alike s z b q → parse_size b ≤ n → placeless_expr (ands_of s e b) ≡ placeless_expr (ands_of z f q)
  ands e f p stop nones small = p
  ands e f p (turn l (both {b = a} (one {c = c} h) t) u) (pairs (pairs {q = y} (leaves {d = d} c') t') u') small =
      ands (joined e c (comparison_of s a)) (joined f d (comparison_of z y)) (joined_same e f (comparison_of s a) (comparison_of z y) p c' (comparison t t' (omega arith))) u u' (omega arith)

  conjunction : {a q : Parse} {ts r : List Lexeme} → Takes grammar (rule rules.conjunction) a ts r → Alike s z a q → parse_size a ≤ n → placeless_expr (conjunction_of s a) ≡ placeless_expr (conjunction_of z q)
  conjunction (call (both {a = a} t u)) (pairs {p = y} t' u') small = ands (comparison_of s a) (comparison_of z y) (comparison t t' (omega arith)) u u' (omega arith)

  ors : {k : Bound} {b q : Parse} {ts r : List Lexeme} (e f : Expr) → placeless_expr e ≡ placeless_expr f → Takes grammar (turns k (seq (token is_or) (rule rules.conjunction))) b ts r → Alike s z b q → parse_size b ≤ n → placeless_expr (ors_of s e b) ≡ placeless_expr (ors_of z f q)
  ors e f p stop nones small = p
  ors e f p (turn l (both {b = a} (one {c = c} h) t) u) (pairs (pairs {q = y} (leaves {d = d} c') t') u') small =
      ors (joined e c (conjunction_of s a)) (joined f d (conjunction_of z y)) (joined_same e f (conjunction_of s a) (conjunction_of z y) p c' (conjunction t t' (omega arith))) u u' (omega arith)

  expression : {a q : Parse} {ts r : List Lexeme} → Takes grammar (rule rules.expression) a ts r → Alike s z a q → parse_size a ≤ n → placeless_expr (expression_of s a) ≡ placeless_expr (expression_of z q)
  expression (call (both {a = a} t u)) (pairs {p = y} t' u') small = ors (conjunction_of s a) (conjunction_of z y) (conjunction t t' (omega arith)) u u' (omega arith)

upto : (s z : List ℕ) (n : ℕ) (a b : Parse) (ts r : List Lexeme) → Takes grammar (rule rules.expression) a ts r → Alike s z a b → parse_size a < n → placeless_expr (expression_of s a) ≡ placeless_expr (expression_of z b)
upto s z zero a b ts r t e h = absurd (omega arith)
upto s z (suc n) a b ts r t e h = expression s z n (upto s z n) t e (omega arith)

-- expressions of alike parses
pub same_expression : (s z : List ℕ) {a b : Parse} {ts r : List Lexeme} → Takes grammar (rule rules.expression) a ts r → Alike s z a b → placeless_expr (expression_of s a) ≡ placeless_expr (expression_of z b)
same_expression s z {a = a} {b = b} {ts = ts} {r = r} t e = upto s z (suc (parse_size a)) a b ts r t e (omega arith)
