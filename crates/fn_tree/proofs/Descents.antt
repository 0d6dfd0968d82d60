-- A descent that reads tokens by the grammar: each part as far as it goes, each alternative in turn.
-- What it finds is a text; it serves the worked examples.
use Rattle.std.proofs.Common.{◌≡◌, refl, subst, ℕ, zero, suc, ◌≤◌, Bool, true, false, List, [], ◌∷◌, length, Option, Some, None}
use Rattle.std.specs.Str.Lossy.{utf8_valid_len}
use Rattle.fn_tree.specs.Grammar.{Prod, token, empty, seq, alt, turns, rule, Bound, up_to, endless, Less, one_less, no_less, Parse, leaf, none, pair, in_left, in_right, Takes, one, nothing, both, left, right, stop, turn, call}
use Rattle.fn_tree.specs.Language.{grammar}
use Rattle.fn_tree.specs.Lexemes.{lexemes_of}
use Rattle.fn_tree.specs.ModuleTexts.{IsModuleText, longest}
use Rattle.fn_tree.specs.Nesting.{first_too_deep}
use Rattle.fn_tree.specs.ParseTrees.{module_of}
use Rattle.fn_tree.specs.Rules.{Rule, whole_module}
use Rattle.fn_tree.specs.SyntaxTree.{ModuleTree}
use Rattle.fn_tree.specs.declared.lexeme.Lexeme.{Lexeme}
use Rattle.fn_tree.specs.declared.lexeme.Terminal.{Terminal}

-- a text of the production at the front of the tokens
pub record Found (p : Prod) (ts : List Lexeme) : Type 0 where
  pub parse : Parse
  pub rest : List Lexeme
  pub takes : Takes grammar p parse ts rest

abbrev pub found_token : {f : Terminal → Bool} {c : Lexeme} {ts : List Lexeme} → (b : Bool) → f c.terminal ≡ b → Option (Found (token f) (c ∷ ts))
found_token {c = c} {ts = ts} true e = Some (record { parse = leaf c; rest = ts; takes = one e })
found_token false e = None

abbrev pub found_both : {p q : Prod} {ts : List Lexeme} → (x : Found p ts) → Option (Found q x.rest) → Option (Found (seq p q) ts)
found_both x None = None
found_both x (Some y) = Some (record { parse = pair x.parse y.parse; rest = y.rest; takes = both x.takes y.takes })

abbrev pub found_next : {p q : Prod} {ts : List Lexeme} → Option (Found p ts) → ((ms : List Lexeme) → Option (Found q ms)) → Option (Found (seq p q) ts)
found_next None next = None
found_next (Some x) next = found_both x (next x.rest)

abbrev pub found_other : {p q : Prod} {ts : List Lexeme} → Option (Found q ts) → Option (Found (alt p q) ts)
found_other None = None
found_other (Some x) = Some (record { parse = in_right x.parse; rest = x.rest; takes = right x.takes })

abbrev pub found_either : {p q : Prod} {ts : List Lexeme} → Option (Found p ts) → Option (Found q ts) → Option (Found (alt p q) ts)
found_either None y = found_other y
found_either (Some x) y = Some (record { parse = in_left x.parse; rest = x.rest; takes = left x.takes })

abbrev pub found_stop : {n : Bound} {p : Prod} {ts : List Lexeme} → Option (Found (turns n p) ts)
found_stop {ts = ts} = Some (record { parse = none; rest = ts; takes = stop })

abbrev pub found_more : {n k : Bound} {p : Prod} {ts : List Lexeme} → Less k n → (x : Found p ts) → Option (Found (turns k p) x.rest) → Option (Found (turns n p) ts)
found_more l x None = None
found_more l x (Some y) = Some (record { parse = pair x.parse y.parse; rest = y.rest; takes = turn l x.takes y.takes })

abbrev pub found_turns : {n k : Bound} {p : Prod} {ts : List Lexeme} → Less k n → Option (Found p ts) → ((ms : List Lexeme) → Option (Found (turns k p) ms)) → Option (Found (turns n p) ts)
found_turns l None next = found_stop
found_turns l (Some x) next = found_more l x (next x.rest)

abbrev pub found_call : {i : Rule} {ts : List Lexeme} → Option (Found (grammar i) ts) → Option (Found (rule i) ts)
found_call None = None
found_call (Some x) = Some (record { parse = x.parse; rest = x.rest; takes = call x.takes })

-- so many steps deep
abbrev pub found : ℕ → (p : Prod) (ts : List Lexeme) → Option (Found p ts)
found zero p ts = None
found (suc k) (token f) [] = None
found (suc k) (token f) (c ∷ ts) = found_token (f c.terminal) refl
found (suc k) empty ts = Some (record { parse = none; rest = ts; takes = nothing })
found (suc k) (seq p q) ts = found_next (found k p ts) (found k q)
found (suc k) (alt p q) ts = found_either (found k p ts) (found k q ts)
found (suc k) (turns (up_to zero) p) ts = found_stop
found (suc k) (turns (up_to (suc n)) p) ts = found_turns one_less (found k p ts) (found k (turns (up_to n) p))
found (suc k) (turns endless p) ts = found_turns no_less (found k p ts) (found k (turns endless p))
found (suc k) (rule i) ts = found_call (found k (grammar i) ts)

abbrev pub IsThere : {A : Type 0} → Option A → Type 0
IsThere None = ⊥
IsThere (Some a) = Unit {0}

abbrev pub what_is_there : {A : Type 0} → (o : Option A) → IsThere o → A
what_is_there None e = absurd e
what_is_there (Some a) e = a

-- what is found up to the end of the tokens, and what it says
abbrev pub whole_text : {A : Type 0} → (i : Rule) (says : Parse → A) (ts : List Lexeme) (tree : A) → (x : Found (rule i) ts) → x.rest ≡ [] → says x.parse ≡ tree
    → (a : Parse) × Takes grammar (rule i) a ts [] × (says a ≡ tree)
whole_text i says ts tree x e t = (x.parse, subst (λ r. Takes grammar (rule i) x.parse ts r) e x.takes, t)

-- the same for a whole module
abbrev pub module_text : (text : List ℕ) (m : ModuleTree) → (x : Found (rule whole_module) (lexemes_of text).lexemes) → x.rest ≡ [] → module_of text x.parse ≡ m
    → utf8_valid_len text ≡ length text → (lexemes_of text).bad ≡ None → first_too_deep (lexemes_of text).lexemes ≡ None → length text ≤ longest → IsModuleText text m
module_text text m x e t utf8 readable shallow short =
    let whole = whole_text whole_module (module_of text) (lexemes_of text).lexemes m x e t in
    record { short = short; utf8 = utf8; readable = readable; shallow = shallow; parse = whole.0; parses = whole.1; tree = whole.2 }
