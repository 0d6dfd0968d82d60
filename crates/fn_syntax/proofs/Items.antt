-- Lists with commas between their items: expressions, entries and bounds.
use Rattle.std.proofs.Common.{ℕ, ◌<◌, ◌≤◌, length, arith, List, [], ◌∷◌, ◌++◌, ◌≡◌, refl, sym, ap, subst, ◌∙◌, map}
use Rattle.fn_tree.specs.Fronts.{Finds, Fails, NoClash}
use Rattle.fn_tree.specs.Grammar.{Prod, seq, turns, rule, endless, Parse, leaf, none, pair}
use Rattle.fn_tree.specs.Grammar.Less.{no_less}
use Rattle.fn_tree.specs.Grammar.Reads.{in_first}
use Rattle.fn_tree.specs.Language.{grammar, commas, mark}
use Rattle.fn_tree.specs.ParseTrees as tree
use Rattle.fn_tree.specs.Rules.{expression, entry, bound}
use Rattle.fn_tree.specs.SyntaxTree as plain
use Rattle.fn_tree.specs.SyntaxTree.{Exprs, no_exprs, then_expr, Entries, no_entries, Bounds, no_bounds}
use Rattle.fn_tree.specs.SyntaxViews.{expr_view, bound_view, exprs_of, entries_of, bounds_of, BoundView}
use Rattle.fn_tree.specs.declared.syntax.BoundExpr.{BoundExpr}
use Rattle.fn_tree.specs.declared.syntax.Expr.{Expr}
use Rattle.fn_tree.specs.declared.lexeme.Lexeme.{Lexeme}
use Rattle.fn_tree.specs.declared.lexeme.Mark.TheVariants.{Comma}
use Rattle.fn_tree.specs.declared.syntax.Named.{Named}
use Rattle.fn_tree.proofs.Fronts.{takes_reads, seq_fails}
use Rattle.fn_tree.proofs.Language.{clear}
use Rattle.fn_syntax.specs.Descents.{Found}
use Rattle.fn_syntax.specs.Means.{bounds, IsEntryOf, IsBoundOf}
use Rattle.fn_syntax.proofs.Descent.{Makes, makes_same, makes_on, makes_next, makes_turn, then, misses, turns_end, not_shorter}

-- ---- any list

-- a comma and an item
abbrev pub further : Prod → Prod
further p = seq (mark Comma) p

-- a comma begins a turn
comma_turn : {p : Prod} {c : Lexeme} {rest after : List Lexeme} → Finds grammar (mark Comma) (leaf c) rest after → length after < length rest → Makes (turns endless (further p)) (λ a. a) rest (seq (further p) (turns endless (further p))) rest
comma_turn o h = makes_turn no_less (in_first (takes_reads o.takes)) (not_shorter h)

-- a further item is found
pub item_found : {o p : Prod} {f : Parse → Parse} {c : Lexeme} {b : Parse} {ts rest after r : List Lexeme} → NoClash grammar (mark Comma) p → NoClash grammar (further p) (turns endless (further p)) → Makes o f ts (turns endless (further p)) rest → Finds grammar (mark Comma) (leaf c) rest after → length after < length rest → Finds grammar p b after r → Makes o (λ a. f (pair (pair (leaf c) b) a)) ts (turns endless (further p)) r
item_found n k m o h y = then (makes_on m (comma_turn o h)) k ((makes_next n o).found _ _ y)

pub item_missed : {o p : Prod} {f : Parse → Parse} {c : Lexeme} {ts rest after r : List Lexeme} → NoClash grammar (mark Comma) p → NoClash grammar (further p) (turns endless (further p)) → Makes o f ts (turns endless (further p)) rest → Finds grammar (mark Comma) (leaf c) rest after → length after < length rest → Fails grammar p after r → Fails grammar o ts r
item_missed n k m o h y = misses (makes_on m (comma_turn o h)) k ((makes_next n o).fails _ y)

-- no further item
pub items_end : {o p : Prod} {f : Parse → Parse} {ts rest : List Lexeme} → NoClash grammar (mark Comma) p → Makes o f ts (turns endless (further p)) rest → Fails grammar (mark Comma) rest rest → Finds grammar o (f none) ts rest
items_end n m o = m.found none _ (turns_end (seq_fails n o))

-- ---- expressions

-- these, and others after them
abbrev pub exprs_with : List plain.Expr → Exprs → Exprs
exprs_with [] more = more
exprs_with (e ∷ es) more = then_expr e (exprs_with es more)

exprs_with_push : (es : List plain.Expr) (e : plain.Expr) (more : Exprs) → exprs_with (es ++ e ∷ []) more ≡ exprs_with es (then_expr e more)
exprs_with_push [] e more = refl
exprs_with_push (x ∷ es) e more = ap (λ r. then_expr x r) (exprs_with_push es e more)

exprs_with_none : (es : List plain.Expr) → exprs_with es no_exprs ≡ exprs_of es
exprs_with_none [] = refl
exprs_with_none (x ∷ es) = ap (λ r. then_expr x r) (exprs_with_none es)

pub record Exprs_so_far (s : List ℕ) (es : List plain.Expr) (ts rest : List Lexeme) : Type 0 where
  pub f : Parse → Parse
  pub makes : Makes (commas (rule expression)) f ts (turns endless (further (rule expression))) rest
  pub means : (a : Parse) → tree.exprs_of s (f a) ≡ exprs_with es (tree.more_exprs_of s a)
  pub shorter : length rest < length ts

pub exprs_begin : {s : List ℕ} {e : plain.Expr} {ts m : List Lexeme} → Found (rule expression) (λ a. e ≡ tree.expression_of s a) ts m → length m < length ts → Exprs_so_far s (e ∷ []) ts m
exprs_begin {s = s} x h = record {
  f = λ a. pair x.parse a;
  makes = then makes_same (clear _ _ refl refl) x.finds;
  means = λ a. ap (λ e. then_expr e (tree.more_exprs_of s a)) (sym x.says);
  shorter = h;
}

pub exprs_go : {s : List ℕ} {es : List plain.Expr} {e : plain.Expr} {c : Lexeme} {ts rest after r : List Lexeme} → Exprs_so_far s es ts rest → Finds grammar (mark Comma) (leaf c) rest after → length after < length rest → Found (rule expression) (λ a. e ≡ tree.expression_of s a) after r → length r < length after → Exprs_so_far s (es ++ e ∷ []) ts r
exprs_go {s = s} {es = es} {e = e} {c = c} g o h x z = record {
  f = λ a. g.f (pair (pair (leaf c) x.parse) a);
  makes = item_found (clear _ _ refl refl) (clear _ _ refl refl) g.makes o h x.finds;
  means = λ a. g.means (pair (pair (leaf c) x.parse) a) ∙ ap (λ v. exprs_with es (then_expr v (tree.more_exprs_of s a))) (sym x.says) ∙ sym (exprs_with_push es e (tree.more_exprs_of s a));
  shorter = let w = g.shorter in omega arith;
}

pub exprs_miss : {s : List ℕ} {es : List plain.Expr} {c : Lexeme} {ts rest after r : List Lexeme} → Exprs_so_far s es ts rest → Finds grammar (mark Comma) (leaf c) rest after → length after < length rest → Fails grammar (rule expression) after r → Fails grammar (commas (rule expression)) ts r
exprs_miss g o h x = item_missed (clear _ _ refl refl) (clear _ _ refl refl) g.makes o h x

pub exprs_end : {s : List ℕ} {es : List plain.Expr} {ts rest : List Lexeme} → Exprs_so_far s es ts rest → Fails grammar (mark Comma) rest rest → Found (commas (rule expression)) (λ a. exprs_of es ≡ tree.exprs_of s a) ts rest
exprs_end {es = es} g o = record { parse = g.f none; finds = items_end (clear _ _ refl refl) g.makes o; says = sym (g.means none ∙ exprs_with_none es) }

-- ---- entries

abbrev pub entries_with : List (Named × plain.Expr) → Entries → Entries
entries_with [] more = more
entries_with (e ∷ es) more = plain.entry e.0 e.1 (entries_with es more)

entries_with_push : (es : List (Named × plain.Expr)) (e : Named × plain.Expr) (more : Entries) → entries_with (es ++ e ∷ []) more ≡ entries_with es (plain.entry e.0 e.1 more)
entries_with_push [] e more = refl
entries_with_push (x ∷ es) e more = ap (λ r. plain.entry x.0 x.1 r) (entries_with_push es e more)

entries_with_none : (es : List (Named × plain.Expr)) → entries_with es no_entries ≡ entries_of es
entries_with_none [] = refl
entries_with_none (x ∷ es) = ap (λ r. plain.entry x.0 x.1 r) (entries_with_none es)

entry_first : (s : List ℕ) (e : Named × plain.Expr) (p a : Parse) → IsEntryOf s e p → tree.entries_of s (pair p a) ≡ plain.entry e.0 e.1 (tree.more_entries_of s a)
entry_first s e (pair n (pair colon x)) a h = ap (λ v. plain.entry v (tree.expression_of s x) (tree.more_entries_of s a)) (sym h.0) ∙ ap (λ v. plain.entry e.0 v (tree.more_entries_of s a)) (sym h.1)
entry_first s e (pair n (leaf c)) a h = absurd h
entry_first s e (pair n none) a h = absurd h
entry_first s e (pair n (Parse.in_left b)) a h = absurd h
entry_first s e (pair n (Parse.in_right b)) a h = absurd h
entry_first s e (leaf c) a h = absurd h
entry_first s e none a h = absurd h
entry_first s e (Parse.in_left b) a h = absurd h
entry_first s e (Parse.in_right b) a h = absurd h

entry_next : (s : List ℕ) (e : Named × plain.Expr) (k p a : Parse) → IsEntryOf s e p → tree.more_entries_of s (pair (pair k p) a) ≡ plain.entry e.0 e.1 (tree.more_entries_of s a)
entry_next s e k (pair n (pair colon x)) a h = ap (λ v. plain.entry v (tree.expression_of s x) (tree.more_entries_of s a)) (sym h.0) ∙ ap (λ v. plain.entry e.0 v (tree.more_entries_of s a)) (sym h.1)
entry_next s e k (pair n (leaf c)) a h = absurd h
entry_next s e k (pair n none) a h = absurd h
entry_next s e k (pair n (Parse.in_left b)) a h = absurd h
entry_next s e k (pair n (Parse.in_right b)) a h = absurd h
entry_next s e k (leaf c) a h = absurd h
entry_next s e k none a h = absurd h
entry_next s e k (Parse.in_left b) a h = absurd h
entry_next s e k (Parse.in_right b) a h = absurd h

pub record Entries_so_far (s : List ℕ) (es : List (Named × plain.Expr)) (ts rest : List Lexeme) : Type 0 where
  pub f : Parse → Parse
  pub makes : Makes (commas (rule entry)) f ts (turns endless (further (rule entry))) rest
  pub means : (a : Parse) → tree.entries_of s (f a) ≡ entries_with es (tree.more_entries_of s a)
  pub shorter : length rest < length ts

pub entries_begin : {s : List ℕ} {e : Named × plain.Expr} {ts m : List Lexeme} → Found (rule entry) (IsEntryOf s e) ts m → length m < length ts → Entries_so_far s (e ∷ []) ts m
entries_begin {s = s} {e = e} x h = record {
  f = λ a. pair x.parse a;
  makes = then makes_same (clear _ _ refl refl) x.finds;
  means = λ a. entry_first s e x.parse a x.says;
  shorter = h;
}

pub entries_go : {s : List ℕ} {es : List (Named × plain.Expr)} {e : Named × plain.Expr} {c : Lexeme} {ts rest after r : List Lexeme} → Entries_so_far s es ts rest → Finds grammar (mark Comma) (leaf c) rest after → length after < length rest → Found (rule entry) (IsEntryOf s e) after r → length r < length after → Entries_so_far s (es ++ e ∷ []) ts r
entries_go {s = s} {es = es} {e = e} {c = c} g o h x z = record {
  f = λ a. g.f (pair (pair (leaf c) x.parse) a);
  makes = item_found (clear _ _ refl refl) (clear _ _ refl refl) g.makes o h x.finds;
  means = λ a. g.means (pair (pair (leaf c) x.parse) a) ∙ ap (λ v. entries_with es v) (entry_next s e (leaf c) x.parse a x.says) ∙ sym (entries_with_push es e (tree.more_entries_of s a));
  shorter = let w = g.shorter in omega arith;
}

pub entries_miss : {s : List ℕ} {es : List (Named × plain.Expr)} {c : Lexeme} {ts rest after r : List Lexeme} → Entries_so_far s es ts rest → Finds grammar (mark Comma) (leaf c) rest after → length after < length rest → Fails grammar (rule entry) after r → Fails grammar (commas (rule entry)) ts r
entries_miss g o h x = item_missed (clear _ _ refl refl) (clear _ _ refl refl) g.makes o h x

pub entries_end : {s : List ℕ} {es : List (Named × plain.Expr)} {ts rest : List Lexeme} → Entries_so_far s es ts rest → Fails grammar (mark Comma) rest rest → Found (commas (rule entry)) (λ a. entries_of es ≡ tree.entries_of s a) ts rest
entries_end {es = es} g o = record { parse = g.f none; finds = items_end (clear _ _ refl refl) g.makes o; says = sym (g.means none ∙ entries_with_none es) }

-- ---- bounds

abbrev pub bounds_with : List BoundView → Bounds → Bounds
bounds_with [] more = more
bounds_with (b ∷ bs) more = plain.bound b.0 b.1 b.2 (bounds_with bs more)

bounds_with_push : (bs : List BoundView) (b : BoundView) (more : Bounds) → bounds_with (bs ++ b ∷ []) more ≡ bounds_with bs (plain.bound b.0 b.1 b.2 more)
bounds_with_push [] b more = refl
bounds_with_push (x ∷ bs) b more = ap (λ r. plain.bound x.0 x.1 x.2 r) (bounds_with_push bs b more)

bounds_with_none : (bs : List BoundView) → bounds_with bs no_bounds ≡ bounds_of bs
bounds_with_none [] = refl
bounds_with_none (x ∷ bs) = ap (λ r. plain.bound x.0 x.1 x.2 r) (bounds_with_none bs)

pub record Bounds_so_far (s : List ℕ) (bs : List BoundView) (ts rest : List Lexeme) : Type 0 where
  pub f : Parse → Parse
  pub makes : Makes bounds f ts bounds rest
  pub means : (a : Parse) → tree.bounds_of s (f a) ≡ bounds_with bs (tree.bounds_of s a)
  pub shorter : length rest ≤ length ts

pub bounds_begin : {s : List ℕ} {ts : List Lexeme} → Bounds_so_far s [] ts ts
bounds_begin = record { f = λ a. a; makes = makes_same; means = λ a. refl; shorter = omega arith }

bound_next : (s : List ℕ) (b : BoundView) (k p a : Parse) → IsBoundOf s b p → tree.bounds_of s (pair (pair k p) a) ≡ plain.bound b.0 b.1 b.2 (tree.bounds_of s a)
bound_next s b k (pair n (pair o x)) a h = ap (λ (v : BoundView). plain.bound v.0 v.1 v.2 (tree.bounds_of s a)) (sym h)
bound_next s b k (pair n (leaf c)) a h = absurd h
bound_next s b k (pair n none) a h = absurd h
bound_next s b k (pair n (Parse.in_left x)) a h = absurd h
bound_next s b k (pair n (Parse.in_right x)) a h = absurd h
bound_next s b k (leaf c) a h = absurd h
bound_next s b k none a h = absurd h
bound_next s b k (Parse.in_left x) a h = absurd h
bound_next s b k (Parse.in_right x) a h = absurd h

pub bounds_go : {s : List ℕ} {bs : List BoundView} {b : BoundView} {c : Lexeme} {ts rest after r : List Lexeme} → Bounds_so_far s bs ts rest → Finds grammar (mark Comma) (leaf c) rest after → length after < length rest → Found (rule bound) (IsBoundOf s b) after r → length r < length after → Bounds_so_far s (bs ++ b ∷ []) ts r
bounds_go {s = s} {bs = bs} {b = b} {c = c} g o h x z = record {
  f = λ a. g.f (pair (pair (leaf c) x.parse) a);
  makes = item_found (clear _ _ refl refl) (clear _ _ refl refl) g.makes o h x.finds;
  means = λ a. g.means (pair (pair (leaf c) x.parse) a) ∙ ap (λ v. bounds_with bs v) (bound_next s b (leaf c) x.parse a x.says) ∙ sym (bounds_with_push bs b (tree.bounds_of s a));
  shorter = let w = g.shorter in omega arith;
}

pub bounds_miss : {s : List ℕ} {bs : List BoundView} {c : Lexeme} {ts rest after r : List Lexeme} → Bounds_so_far s bs ts rest → Finds grammar (mark Comma) (leaf c) rest after → length after < length rest → Fails grammar (rule bound) after r → Fails grammar bounds ts r
bounds_miss g o h x = item_missed (clear _ _ refl refl) (clear _ _ refl refl) g.makes o h x

pub bounds_end : {s : List ℕ} {bs : List BoundView} {ts rest : List Lexeme} → Bounds_so_far s bs ts rest → Fails grammar (mark Comma) rest rest → Found bounds (λ a. bounds_of bs ≡ tree.bounds_of s a) ts rest
bounds_end {bs = bs} g o = record { parse = g.f none; finds = items_end (clear _ _ refl refl) g.makes o; says = sym (g.means none ∙ bounds_with_none bs) }

-- ---- the same, for lists as they are built

map_push : {A B : Type 0} (f : A → B) (xs : List A) (x : A) → map f (xs ++ x ∷ []) ≡ map f xs ++ f x ∷ []
map_push f [] x = refl
map_push f (y ∷ xs) x = ap (λ r. f y ∷ r) (map_push f xs x)

only : {A B : Type 0} (f : A → B) (xs ys : List A) (x : A) → xs ≡ [] → ys ≡ xs ++ x ∷ [] → map f ys ≡ f x ∷ []
only f xs ys x e h = ap (map f) (h ∙ ap (λ r. r ++ x ∷ []) e)

one_more : {A B : Type 0} (f : A → B) (xs ys : List A) (x : A) → ys ≡ xs ++ x ∷ [] → map f ys ≡ map f xs ++ f x ∷ []
one_more f xs ys x h = ap (map f) h ∙ map_push f xs x

pub exprs_begin_at : {s : List ℕ} (e : Expr) {ts m : List Lexeme} (xs ys : List Expr) → xs ≡ [] → ys ≡ xs ++ e ∷ [] → Found (rule expression) (λ a. expr_view e ≡ tree.expression_of s a) ts m → length m < length ts → Exprs_so_far s (map expr_view ys) ts m
exprs_begin_at {s = s} e {ts = ts} {m = m} xs ys h k x z = subst (λ (v : List plain.Expr). Exprs_so_far s v ts m) (sym (only expr_view xs ys e h k)) (exprs_begin x z)

pub exprs_go_at : {s : List ℕ} (e : Expr) {c : Lexeme} {ts rest after r : List Lexeme} (xs ys : List Expr) → ys ≡ xs ++ e ∷ [] → Exprs_so_far s (map expr_view xs) ts rest → Finds grammar (mark Comma) (leaf c) rest after → length after < length rest → Found (rule expression) (λ a. expr_view e ≡ tree.expression_of s a) after r → length r < length after → Exprs_so_far s (map expr_view ys) ts r
exprs_go_at {s = s} e {ts = ts} {r = r} xs ys h g o z x w = subst (λ (v : List plain.Expr). Exprs_so_far s v ts r) (sym (one_more expr_view xs ys e h)) (exprs_go g o z x w)

pub exprs_end_at : {s : List ℕ} {ts rest : List Lexeme} (xs ys : List Expr) → ys ≡ xs → Exprs_so_far s (map expr_view xs) ts rest → Fails grammar (mark Comma) rest rest → Found (commas (rule expression)) (λ a. exprs_of (map expr_view ys) ≡ tree.exprs_of s a) ts rest
exprs_end_at {s = s} {ts = ts} {rest = rest} xs ys h g o = subst (λ (v : List Expr). Found (commas (rule expression)) (λ a. exprs_of (map expr_view v) ≡ tree.exprs_of s a) ts rest) (sym h) (exprs_end g o)

abbrev pub pair_view : Named × Expr → Named × plain.Expr
pair_view p = (p.0, expr_view p.1)

pub entries_begin_at : {s : List ℕ} (e : Named × Expr) {ts m : List Lexeme} (xs ys : List (Named × Expr)) → xs ≡ [] → ys ≡ xs ++ e ∷ [] → Found (rule entry) (IsEntryOf s (pair_view e)) ts m → length m < length ts → Entries_so_far s (map pair_view ys) ts m
entries_begin_at {s = s} e {ts = ts} {m = m} xs ys h k x z = subst (λ (v : List (Named × plain.Expr)). Entries_so_far s v ts m) (sym (only pair_view xs ys e h k)) (entries_begin x z)

pub entries_go_at : {s : List ℕ} (e : Named × Expr) {c : Lexeme} {ts rest after r : List Lexeme} (xs ys : List (Named × Expr)) → ys ≡ xs ++ e ∷ [] → Entries_so_far s (map pair_view xs) ts rest → Finds grammar (mark Comma) (leaf c) rest after → length after < length rest → Found (rule entry) (IsEntryOf s (pair_view e)) after r → length r < length after → Entries_so_far s (map pair_view ys) ts r
entries_go_at {s = s} e {ts = ts} {r = r} xs ys h g o z x w = subst (λ (v : List (Named × plain.Expr)). Entries_so_far s v ts r) (sym (one_more pair_view xs ys e h)) (entries_go g o z x w)

pub entries_end_at : {s : List ℕ} {ts rest : List Lexeme} (xs ys : List (Named × Expr)) → ys ≡ xs → Entries_so_far s (map pair_view xs) ts rest → Fails grammar (mark Comma) rest rest → Found (commas (rule entry)) (λ a. entries_of (map pair_view ys) ≡ tree.entries_of s a) ts rest
entries_end_at {s = s} {ts = ts} {rest = rest} xs ys h g o = subst (λ (v : List (Named × Expr)). Found (commas (rule entry)) (λ a. entries_of (map pair_view v) ≡ tree.entries_of s a) ts rest) (sym h) (entries_end g o)

pub bounds_begin_at : {s : List ℕ} {ts : List Lexeme} (xs : List BoundExpr) → xs ≡ [] → Bounds_so_far s (map bound_view xs) ts ts
bounds_begin_at {s = s} {ts = ts} xs h = subst (λ (v : List BoundExpr). Bounds_so_far s (map bound_view v) ts ts) (sym h) bounds_begin

pub bounds_go_at : {s : List ℕ} (b : BoundExpr) {c : Lexeme} {ts rest after r : List Lexeme} (xs ys : List BoundExpr) → ys ≡ xs ++ b ∷ [] → Bounds_so_far s (map bound_view xs) ts rest → Finds grammar (mark Comma) (leaf c) rest after → length after < length rest → Found (rule bound) (IsBoundOf s (bound_view b)) after r → length r < length after → Bounds_so_far s (map bound_view ys) ts r
bounds_go_at {s = s} b {ts = ts} {r = r} xs ys h g o z x w = subst (λ (v : List BoundView). Bounds_so_far s v ts r) (sym (one_more bound_view xs ys b h)) (bounds_go g o z x w)

pub bounds_end_at : {s : List ℕ} {ts rest : List Lexeme} (xs ys : List BoundExpr) → ys ≡ xs → Bounds_so_far s (map bound_view xs) ts rest → Fails grammar (mark Comma) rest rest → Found bounds (λ a. bounds_of (map bound_view ys) ≡ tree.bounds_of s a) ts rest
bounds_end_at {s = s} {ts = ts} {rest = rest} xs ys h g o = subst (λ (v : List BoundExpr). Found bounds (λ a. bounds_of (map bound_view v) ≡ tree.bounds_of s a) ts rest) (sym h) (bounds_end g o)
