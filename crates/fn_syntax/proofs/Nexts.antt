-- What the next token tells of a production.
use Rattle.std.proofs.Common.{◌≡◌, List, [], ◌∷◌, Bool, true, false, ◌⊎◌, inl, inr, refl, sym}
use Rattle.fn_tree.specs.Fronts.{Ends, Fails}
use Rattle.fn_tree.specs.Grammar.{Prod, Reads, rule}
use Rattle.fn_tree.specs.Grammar.Reads.{the_token, in_first, in_one, in_other, in_call}
use Rattle.fn_tree.specs.Language.{grammar}
use Rattle.fn_tree.specs.Rules.{suffix}
use Rattle.fn_tree.specs.Terminals.{is, is_suffix}
use Rattle.fn_tree.specs.declared.lexeme.Lexeme.{Lexeme}
use Rattle.fn_tree.specs.declared.lexeme.Mark.TheVariants.{Dot, OpenBracket}
use Rattle.fn_tree.specs.declared.lexeme.Terminal.{Terminal}
use Rattle.fn_tree.specs.declared.lexeme.Terminal.TheVariants.{Mark as Punctuation}
use Rattle.fn_tree.proofs.Fronts.{not_behind}
use Rattle.fn_tree.proofs.LanguageTables.{tables}
use Rattle.fn_tree.proofs.Tables.{nil, starts}
use Rattle.fn_tree.proofs.Tokens.{or, no, at_each, implied}
use Rattle.fn_syntax.specs.Classes.{has, next_is}
use Rattle.fn_syntax.specs.declared.parser.class.Class.{Class}
use Rattle.fn_syntax.specs.declared.parser.class.Class.TheVariants.{Suffix}
use Rattle.fn_syntax.proofs.Descent.{shut, shut_end}

-- nothing of a production begins where no token of a class is next, if it begins with such a token alone
pub shut_next : {p : Prod} (k : Class) (ts : List Lexeme) → ((t : Terminal) → starts tables p t ≡ true → has k t ≡ true) → nil tables p ≡ false → next_is k ts ≡ false → Fails grammar p ts ts
shut_next k [] h n e = shut_end n
shut_next {p = p} k (c ∷ ts) h n e = shut (lift (starts tables p c.terminal) (has k c.terminal) (h c.terminal) e) n
  where
    lift : (a b : Bool) → (a ≡ true → b ≡ true) → b ≡ false → a ≡ false
    lift false b h e = refl
    lift true true h e = e
    lift true false h e = sym (h refl)

-- a front that goes on
pub record Begins (p : Prod) (ts : List Lexeme) : Type 0 where
  pub rest : List Lexeme
  pub reads : Reads grammar p ts rest
  pub on : Ends ts rest → ⊥

one_of : (a b : Bool) → or a b ≡ true → (a ≡ true) ⊎ (b ≡ true)
one_of true b h = inl refl
one_of false b h = inr h

suffix_kind : (t : Terminal) → is_suffix t ≡ true → or (is (Punctuation Dot) t) (is (Punctuation OpenBracket) t) ≡ true
suffix_kind t = implied (is_suffix t) (or (is (Punctuation Dot) t) (is (Punctuation OpenBracket) t)) (at_each (λ t. or (no (is_suffix t)) (or (is (Punctuation Dot) t) (is (Punctuation OpenBracket) t))) refl t)

pub suffix_begins_here : (ts : List Lexeme) → next_is Suffix ts ≡ true → Begins (rule suffix) ts
suffix_begins_here [] h = absurd (cc)
suffix_begins_here (c ∷ ts) h = go (one_of _ _ (suffix_kind c.terminal h))
  where
    go : (is (Punctuation Dot) c.terminal ≡ true) ⊎ (is (Punctuation OpenBracket) c.terminal ≡ true) → Begins (rule suffix) (c ∷ ts)
    go (inl e) = record { rest = ts; reads = in_call (in_one (in_first (the_token e))); on = λ x. not_behind x }
    go (inr e) = record { rest = ts; reads = in_call (in_other (in_first (the_token e))); on = λ x. not_behind x }
