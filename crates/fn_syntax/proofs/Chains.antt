-- Operands with operators of one level between them, and what stands behind a primary expression.
use Rattle.std.proofs.Common.{ℕ, zero, suc, ◌+◌, ◌<◌, ◌≤◌, length, arith, List, ◌≡◌, refl, sym, ap, subst, ◌∙◌}
use Rattle.fn_tree.specs.Fronts.{Finds, Fails, NoClash}
use Rattle.fn_tree.specs.Grammar.{Prod, token, seq, turns, rule, up_to, Parse, leaf, none, pair}
use Rattle.fn_tree.specs.Grammar.Less.{one_less}
use Rattle.fn_tree.specs.Grammar.Reads.{in_first}
use Rattle.fn_tree.specs.Language.{grammar}
use Rattle.fn_tree.specs.ParseTrees.{joined, token_of, postfix_of, suffixes_of, suffix_of, primary_of}
use Rattle.fn_tree.specs.Rules.{postfix, suffix, primary}
use Rattle.fn_tree.specs.SyntaxTree.{Expr}
use Rattle.fn_tree.specs.declared.lexeme.Lexeme.{Lexeme}
use Rattle.fn_tree.proofs.Fronts.{takes_reads, seq_fails}
use Rattle.fn_tree.proofs.Language.{clear}
use Rattle.fn_syntax.specs.Classes.{has}
use Rattle.fn_syntax.specs.Descents.{Found}
use Rattle.fn_syntax.specs.Levels.{rule_of, operand_of, operators_of, tree_of, operand_tree_of, goes_on}
use Rattle.fn_syntax.specs.declared.parser.class.Class.{Class}
use Rattle.fn_syntax.specs.declared.parser.expression.Level.{Level}
use Rattle.fn_syntax.specs.declared.parser.expression.Level.TheVariants.{Or, And, Sum, Term}
use Rattle.fn_syntax.proofs.Nexts.{Begins}
use Rattle.fn_syntax.proofs.Descent.{Makes, makes_on, makes_next, makes_call, makes_turn, then, misses, turns_end, turns_full, not_shorter}

-- an operator and an operand
abbrev pub step : Level → Prod
step k = seq (token (has (operators_of k))) (rule (operand_of k))

makes_chain : (k : Level) {ts : List Lexeme} → Makes (rule (rule_of k)) (λ a. a) ts (seq (rule (operand_of k)) (turns (up_to 16) (step k))) ts
makes_chain Or = makes_call (rule_of Or)
makes_chain And = makes_call (rule_of And)
makes_chain Sum = makes_call (rule_of Sum)
makes_chain Term = makes_call (rule_of Term)

operand_first : (k : Level) (n : ℕ) → NoClash grammar (rule (operand_of k)) (turns (up_to n) (step k))
operand_first Or n = clear _ _ refl refl
operand_first And n = clear _ _ refl refl
operand_first Sum n = clear _ _ refl refl
operand_first Term n = clear _ _ refl refl

operator_first : (k : Level) → NoClash grammar (token (has (operators_of k))) (rule (operand_of k))
operator_first Or = clear _ _ refl refl
operator_first And = clear _ _ refl refl
operator_first Sum = clear _ _ refl refl
operator_first Term = clear _ _ refl refl

step_first : (k : Level) (n : ℕ) → NoClash grammar (step k) (turns (up_to n) (step k))
step_first Or n = clear _ _ refl refl
step_first And n = clear _ _ refl refl
step_first Sum n = clear _ _ refl refl
step_first Term n = clear _ _ refl refl

-- what the first operand says, and each further one
tree_begins : (k : Level) (s : List ℕ) (a b : Parse) → tree_of k s (pair a b) ≡ goes_on k s (operand_tree_of k s a) b
tree_begins Or s a b = refl
tree_begins And s a b = refl
tree_begins Sum s a b = refl
tree_begins Term s a b = refl

tree_goes : (k : Level) (s : List ℕ) (e : Expr) (o a b : Parse) → goes_on k s e (pair (pair o a) b) ≡ goes_on k s (joined e (token_of o) (operand_tree_of k s a)) b
tree_goes Or s e o a b = refl
tree_goes And s e o a b = refl
tree_goes Sum s e o a b = refl
tree_goes Term s e o a b = refl

tree_ends : (k : Level) (s : List ℕ) (e : Expr) → goes_on k s e none ≡ e
tree_ends Or s e = refl
tree_ends And s e = refl
tree_ends Sum s e = refl
tree_ends Term s e = refl

-- after some operators: e is the expression so far
pub record Chained (k : Level) (s : List ℕ) (e : Expr) (i : ℕ) (ts rest : List Lexeme) : Type 0 where
  pub f : Parse → Parse
  pub left : ℕ
  pub count : left + i ≡ 16
  pub makes : Makes (rule (rule_of k)) f ts (turns (up_to left) (step k)) rest
  pub means : (a : Parse) → tree_of k s (f a) ≡ goes_on k s e a
  pub shorter : length rest < length ts

pub chain_begins : {k : Level} {s : List ℕ} {e : Expr} {ts m : List Lexeme} → Found (rule (operand_of k)) (λ a. e ≡ operand_tree_of k s a) ts m → length m < length ts → Chained k s e 0 ts m
chain_begins {k = k} {s = s} x h = record {
  f = λ a. pair x.parse a;
  left = 16;
  count = refl;
  makes = then (makes_chain k) (operand_first k 16) x.finds;
  means = λ a. tree_begins k s x.parse a ∙ ap (λ e. goes_on k s e a) (sym x.says);
  shorter = h;
}

-- an operator begins a turn
chain_turn : (k : Level) {c : Lexeme} {rest after : List Lexeme} (n : ℕ) → Finds grammar (token (has (operators_of k))) (leaf c) rest after → length after < length rest → Makes (turns (up_to (suc n)) (step k)) (λ a. a) rest (seq (step k) (turns (up_to n) (step k))) rest
chain_turn k n o h = makes_turn one_less (in_first (takes_reads o.takes)) (not_shorter h)

pub chain_goes : {k : Level} {s : List ℕ} {e x d : Expr} {i : ℕ} {c : Lexeme} {ts rest after r : List Lexeme} → Chained k s e i ts rest → i < 16 → Finds grammar (token (has (operators_of k))) (leaf c) rest after → length after < length rest → Found (rule (operand_of k)) (λ a. x ≡ operand_tree_of k s a) after r → length r < length after → d ≡ joined e c x → Chained k s d (i + 1) ts r
chain_goes {k = k} {s = s} {e = e} {x = x} {d = d} {i = i} {c = c} {ts = ts} {rest = rest} {r = r} g h o j y z q = go g.left g.count g.makes
  where
    go : (n : ℕ) → n + i ≡ 16 → Makes (rule (rule_of k)) g.f ts (turns (up_to n) (step k)) rest → Chained k s d (i + 1) ts r
    go zero u m = absurd (omega arith)
    go (suc n) u m = record {
      f = λ a. g.f (pair (pair (leaf c) y.parse) a);
      left = n;
      count = omega arith;
      makes = then (makes_on m (chain_turn k n o j)) (step_first k n) ((makes_next (operator_first k) o).found _ _ y.finds);
      means = λ a. g.means (pair (pair (leaf c) y.parse) a) ∙ tree_goes k s e (leaf c) y.parse a ∙ ap (λ v. goes_on k s (joined e c v) a) (sym y.says) ∙ ap (λ v. goes_on k s v a) (sym q);
      shorter = let w = g.shorter in omega arith;
    }

pub chain_misses : {k : Level} {s : List ℕ} {e : Expr} {i : ℕ} {c : Lexeme} {ts rest after r : List Lexeme} → Chained k s e i ts rest → i < 16 → Finds grammar (token (has (operators_of k))) (leaf c) rest after → length after < length rest → Fails grammar (rule (operand_of k)) after r → Fails grammar (rule (rule_of k)) ts r
chain_misses {k = k} {i = i} {ts = ts} {rest = rest} {r = r} g h o j y = go g.left g.count g.makes
  where
    go : (n : ℕ) → n + i ≡ 16 → Makes (rule (rule_of k)) g.f ts (turns (up_to n) (step k)) rest → Fails grammar (rule (rule_of k)) ts r
    go zero u m = absurd (omega arith)
    go (suc n) u m = misses (makes_on m (chain_turn k n o j)) (step_first k n) ((makes_next (operator_first k) o).fails _ y)

-- no further operator
pub chain_stops : {k : Level} {s : List ℕ} {e : Expr} {i : ℕ} {ts rest : List Lexeme} → Chained k s e i ts rest → Fails grammar (token (has (operators_of k))) rest rest → Found (rule (rule_of k)) (λ a. e ≡ tree_of k s a) ts rest
chain_stops {k = k} {s = s} {e = e} g o = record {
  parse = g.f none;
  finds = g.makes.found none _ (turns_end (seq_fails (operator_first k) o));
  says = sym (g.means none ∙ tree_ends k s e);
}

-- all operators that may stand
pub chain_ends : {k : Level} {s : List ℕ} {e : Expr} {i : ℕ} {ts rest : List Lexeme} → Chained k s e i ts rest → 16 ≤ i → Found (rule (rule_of k)) (λ a. e ≡ tree_of k s a) ts rest
chain_ends {k = k} {s = s} {e = e} {i = i} {ts = ts} {rest = rest} g h = go g.left g.count g.makes
  where
    go : (n : ℕ) → n + i ≡ 16 → Makes (rule (rule_of k)) g.f ts (turns (up_to n) (step k)) rest → Found (rule (rule_of k)) (λ a. e ≡ tree_of k s a) ts rest
    go zero u m = record { parse = g.f none; finds = m.found none rest turns_full; says = sym (g.means none ∙ tree_ends k s e) }
    go (suc n) u m = absurd (omega arith)

-- ---- behind a primary expression

-- after some fields and items: e is the expression so far
pub record Suffixed (s : List ℕ) (e : Expr) (i : ℕ) (ts rest : List Lexeme) : Type 0 where
  pub f : Parse → Parse
  pub left : ℕ
  pub count : left + i ≡ 16
  pub makes : Makes (rule postfix) f ts (turns (up_to left) (rule suffix)) rest
  pub means : (a : Parse) → postfix_of s (f a) ≡ suffixes_of s e a
  pub shorter : length rest < length ts

pub suffix_begins : {s : List ℕ} {e : Expr} {ts m : List Lexeme} → Found (rule primary) (λ a. e ≡ primary_of s a) ts m → length m < length ts → Suffixed s e 0 ts m
suffix_begins {s = s} x h = record {
  f = λ a. pair x.parse a;
  left = 16;
  count = refl;
  makes = then (makes_call postfix) (clear _ _ refl refl) x.finds;
  means = λ a. ap (λ e. suffixes_of s e a) (sym x.says);
  shorter = h;
}

suffix_first : (n : ℕ) → NoClash grammar (rule suffix) (turns (up_to n) (rule suffix))
suffix_first n = clear _ _ refl refl

pub suffix_goes : {s : List ℕ} {e d : Expr} {i : ℕ} {ts rest r : List Lexeme} → Suffixed s e i ts rest → i < 16 → Found (rule suffix) (λ a. d ≡ suffix_of s e a) rest r → length r < length rest → Suffixed s d (i + 1) ts r
suffix_goes {s = s} {e = e} {d = d} {i = i} {ts = ts} {rest = rest} {r = r} g h y z = go g.left g.count g.makes
  where
    go : (n : ℕ) → n + i ≡ 16 → Makes (rule postfix) g.f ts (turns (up_to n) (rule suffix)) rest → Suffixed s d (i + 1) ts r
    go zero u m = absurd (omega arith)
    go (suc n) u m = record {
      f = λ a. g.f (pair y.parse a);
      left = n;
      count = omega arith;
      makes = then (makes_on m (makes_turn one_less (takes_reads y.finds.takes) (not_shorter z))) (suffix_first n) y.finds;
      means = λ a. g.means (pair y.parse a) ∙ ap (λ v. suffixes_of s v a) (sym y.says);
      shorter = let w = g.shorter in omega arith;
    }

pub suffix_stops : {s : List ℕ} {e : Expr} {i : ℕ} {ts rest : List Lexeme} → Suffixed s e i ts rest → Fails grammar (rule suffix) rest rest → Found (rule postfix) (λ a. e ≡ postfix_of s a) ts rest
suffix_stops g o = record { parse = g.f none; finds = g.makes.found none _ (turns_end o); says = sym (g.means none) }

pub suffix_ends : {s : List ℕ} {e : Expr} {i : ℕ} {ts rest : List Lexeme} → Suffixed s e i ts rest → 16 ≤ i → Found (rule postfix) (λ a. e ≡ postfix_of s a) ts rest
suffix_ends {s = s} {e = e} {i = i} {ts = ts} {rest = rest} g h = go g.left g.count g.makes
  where
    go : (n : ℕ) → n + i ≡ 16 → Makes (rule postfix) g.f ts (turns (up_to n) (rule suffix)) rest → Found (rule postfix) (λ a. e ≡ postfix_of s a) ts rest
    go zero u m = record { parse = g.f none; finds = m.found none rest turns_full; says = sym (g.means none) }
    go (suc n) u m = absurd (omega arith)

pub suffix_misses : {s : List ℕ} {e : Expr} {i : ℕ} {ts rest r : List Lexeme} → Suffixed s e i ts rest → i < 16 → Begins (rule suffix) rest → Fails grammar (rule suffix) rest r → Fails grammar (rule postfix) ts r
suffix_misses {i = i} {ts = ts} {rest = rest} {r = r} g h b y = go g.left g.count g.makes
  where
    go : (n : ℕ) → n + i ≡ 16 → Makes (rule postfix) g.f ts (turns (up_to n) (rule suffix)) rest → Fails grammar (rule postfix) ts r
    go zero u m = absurd (omega arith)
    go (suc n) u m = misses (makes_on m (makes_turn one_less b.reads b.on)) (suffix_first n) y

-- ---- the same, for a class that is known to be that of the operators

pub chain_first_misses : (k : Level) {ts r : List Lexeme} → Fails grammar (rule (operand_of k)) ts r → Fails grammar (rule (rule_of k)) ts r
chain_first_misses k f = misses (makes_chain k) (operand_first k 16) f

pub chain_goes_by : {k : Level} {s : List ℕ} {e x d : Expr} {i : ℕ} {c : Lexeme} {ts rest after r : List Lexeme} (o : Class) → o ≡ operators_of k → Chained k s e i ts rest → i < 16 → Finds grammar (token (has o)) (leaf c) rest after → length after < length rest → Found (rule (operand_of k)) (λ a. x ≡ operand_tree_of k s a) after r → length r < length after → d ≡ joined e c x → Chained k s d (i + 1) ts r
chain_goes_by {c = c} {rest = rest} {after = after} o h g t f j y z q = chain_goes g t (subst (λ (x : Class). Finds grammar (token (has x)) (leaf c) rest after) h f) j y z q

pub chain_misses_by : {k : Level} {s : List ℕ} {e : Expr} {i : ℕ} {c : Lexeme} {ts rest after r : List Lexeme} (o : Class) → o ≡ operators_of k → Chained k s e i ts rest → i < 16 → Finds grammar (token (has o)) (leaf c) rest after → length after < length rest → Fails grammar (rule (operand_of k)) after r → Fails grammar (rule (rule_of k)) ts r
chain_misses_by {c = c} {rest = rest} {after = after} o h g t f j y = chain_misses g t (subst (λ (x : Class). Finds grammar (token (has x)) (leaf c) rest after) h f) j y

pub chain_stops_by : {k : Level} {s : List ℕ} {e : Expr} {i : ℕ} {ts rest : List Lexeme} (o : Class) → o ≡ operators_of k → Chained k s e i ts rest → Fails grammar (token (has o)) rest rest → Found (rule (rule_of k)) (λ a. e ≡ tree_of k s a) ts rest
chain_stops_by {rest = rest} o h g f = chain_stops g (subst (λ (x : Class). Fails grammar (token (has x)) rest rest) h f)
