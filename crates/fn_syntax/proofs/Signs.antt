-- Signs before an operand.
use Rattle.std.proofs.Common.{Option, Some, None, Bor, ◌⊎◌, inl, inr, ℕ, zero, suc, ◌-◌, ◌<◌, arith, List, ◌∷◌, ◌≡◌, refl, sym, ap, subst, ◌∙◌, true, false}
use Rattle.fn_tree.specs.Fronts.{Ends, before, Finds, Fails}
use Rattle.fn_tree.specs.Grammar.{Prod, Takes, Reads, Parse}
use Rattle.fn_tree.specs.Grammar.Bound.{up_to}
use Rattle.fn_tree.specs.Grammar.Less.{one_less}
use Rattle.fn_tree.specs.Grammar.Parse.{leaf, none, pair}
use Rattle.fn_tree.specs.Grammar.Prod.{token, seq, turns, rule}
use Rattle.fn_tree.specs.Grammar.Takes.{one, both, stop, turn}
use Rattle.fn_tree.specs.Grammar.Reads.{none_yet, the_token, in_first, in_next, in_turn, in_later}
use Rattle.fn_tree.specs.Language.{grammar}
use Rattle.fn_tree.specs.ParseTrees.{unary_of, sign_of}
use Rattle.fn_tree.specs.Rules.{postfix}
use Rattle.fn_tree.specs.SyntaxTree.{Expr, expr, unary}
use Rattle.fn_tree.specs.Terminals.{is_sign}
use Rattle.fn_tree.specs.declared.lexeme.Lexeme.{Lexeme}
use Rattle.fn_tree.specs.declared.lexeme.Terminal.{Terminal}
use Rattle.fn_tree.proofs.Fronts.{ends_trans, takes_ends, reads_ends}
use Rattle.fn_tree.proofs.Language.{clear}
use Rattle.fn_tree.proofs.LanguageTables.{tables, sound}
use Rattle.fn_tree.proofs.Tables.{starts, shut_at, takes_nil, at_head}
use Rattle.fn_tree.proofs.Tokens.{and, no, no_false, is_false, at_each, true_or_false}
use Rattle.fn_syntax.specs.Descents.{Found, Accepts}
use Rattle.fn_syntax.specs.Means.{IsSigned}
use Rattle.fn_syntax.proofs.Descent.{Makes, makes_same, then, turns_end}

-- at most n signs and an operand
abbrev pub signs : ℕ → Prod
signs n = seq (turns (up_to n) (token is_sign)) (rule postfix)

-- a sign begins no operand
not_operand : (t : Terminal) → is_sign t ≡ true → starts tables (rule postfix) t ≡ false
not_operand t h = is_false (starts tables (rule postfix) t) (λ k. no_false _ _ (at_each (λ t. no (and (is_sign t) (starts tables (rule postfix) t))) refl t) h k)

-- after a sign no front goes further than those of fewer signs
sign_last : {n : ℕ} {c : Lexeme} {ts r l : List Lexeme} → is_sign c.terminal ≡ true → Ends r ts → ((l : List Lexeme) → Reads grammar (signs n) ts l → Ends r l) → Reads grammar (signs (suc n)) (c ∷ ts) l → Ends r l
sign_last h e k none_yet = before e
sign_last h e k (in_first none_yet) = before e
sign_last h e k (in_first (in_turn one_less none_yet)) = before e
sign_last h e k (in_first (in_turn one_less (the_token x))) = e
sign_last {l = l} h e k (in_first (in_later one_less (one x) y)) = k l (in_first y)
sign_last {c = c} {ts = ts} {l = l} h e k (in_next stop y) = ends_trans (before e) (shut_at sound (not_operand c.terminal h) y)
sign_last {l = l} h e k (in_next (turn one_less (one x) t) y) = k l (in_next t y)

sign_none : {n : ℕ} {a : Parse} {c : Lexeme} {ts r : List Lexeme} → is_sign c.terminal ≡ true → Ends r ts → ((a : Parse) → Takes grammar (signs n) a ts r → ⊥) → Takes grammar (signs (suc n)) a (c ∷ ts) r → ⊥
sign_none {c = c} {ts = ts} {r = r} h e k (both stop t) = go (takes_nil sound t)
  where
    go : (Ends (c ∷ ts) r × (false ≡ true)) ⊎ at_head (starts tables (rule postfix)) (c ∷ ts) → ⊥
    go (inl x) = absurd (cc)
    go (inr x) = true_or_false _ x (not_operand c.terminal h)
sign_none h e k (both {b = b} (turn {b = a} one_less (one x) t) u) = k (pair a b) (both t u)

sign_takes : {n : ℕ} {a : Parse} {c : Lexeme} {ts r : List Lexeme} → is_sign c.terminal ≡ true → Takes grammar (signs n) a ts r → (b : Parse) × Takes grammar (signs (suc n)) b (c ∷ ts) r × ((s : List ℕ) → unary_of s b ≡ expr c.at (unary (sign_of c.terminal) (unary_of s a)))
sign_takes {c = c} h (both {a = a} {b = b} t u) = (pair (pair (leaf c) a) b, both (turn one_less (one h) t) u, λ s. refl)

pub sign_found : {s : List ℕ} {e d : Expr} {c : Lexeme} {ts after r : List Lexeme} (n : ℕ) → 0 < n → Finds grammar (token is_sign) (leaf c) ts after → Found (signs (n - 1)) (λ a. e ≡ unary_of s a) after r → d ≡ expr c.at (unary (sign_of c.terminal) e) → Found (signs n) (λ a. d ≡ unary_of s a) ts r
sign_found zero z o f q = absurd (omega arith)
sign_found {s = s} {e = e} {d = d} {c = c} {after = after} {r = r} (suc n) z o f q = go o.takes (subst (λ (m : ℕ). Found (signs m) (λ a. e ≡ unary_of s a) after r) (omega arith) f)
  where
    go : {ts after : List Lexeme} → Takes grammar (token is_sign) (leaf c) ts after → Found (signs n) (λ a. e ≡ unary_of s a) after r → Found (signs (suc n)) (λ a. d ≡ unary_of s a) ts r
    go (one h) f =
        let x = sign_takes h f.finds.takes in
        record {
          parse = x.0;
          finds = record { takes = x.1; last = λ l y. sign_last h (takes_ends f.finds.takes) f.finds.last y };
          says = q ∙ ap (λ v. expr c.at (unary (sign_of c.terminal) v)) f.says ∙ sym (x.2 s);
        }

pub sign_misses : {c : Lexeme} {ts after r : List Lexeme} (n : ℕ) → 0 < n → Finds grammar (token is_sign) (leaf c) ts after → Fails grammar (signs (n - 1)) after r → Fails grammar (signs n) ts r
sign_misses zero z o f = absurd (omega arith)
sign_misses {c = c} {after = after} {r = r} (suc n) z o f = go o.takes (subst (λ (m : ℕ). Fails grammar (signs m) after r) (omega arith) f)
  where
    go : {ts after : List Lexeme} → Takes grammar (token is_sign) (leaf c) ts after → Fails grammar (signs n) after r → Fails grammar (signs (suc n)) ts r
    go (one h) f = record {
      reads = reads_on h f.reads;
      last = λ l y. sign_last h (reads_ends f.reads) f.last y;
      none = λ a y. sign_none h (reads_ends f.reads) f.none y;
    }
      where
        reads_on : {ts r : List Lexeme} → is_sign c.terminal ≡ true → Reads grammar (signs n) ts r → Reads grammar (signs (suc n)) (c ∷ ts) r
        reads_on h none_yet = in_first (in_turn one_less (the_token h))
        reads_on h (in_first x) = in_first (in_later one_less (one h) x)
        reads_on h (in_next t x) = in_next (turn one_less (one h) t) x

-- no sign
pub makes_unsigned : {ts : List Lexeme} (n : ℕ) → Finds grammar (turns (up_to n) (token is_sign)) none ts ts → Makes (signs n) (λ a. pair none a) ts (rule postfix) ts
makes_unsigned n f = then makes_same (clear _ _ refl refl) f

-- a sign where one is next
pub signed_by : (ts : List Lexeme) (n : ℕ) → 0 < n → (o : Option (Lexeme × Bor (List Lexeme))) → Accepts is_sign ts o → IsSigned n ts o
signed_by ts n z None f = turns_end f
signed_by ts n z (Some x) f = (z, f)
