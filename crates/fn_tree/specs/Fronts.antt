-- The furthest front of a production: what a descent finds, and where it fails.
use Rattle.std.specs.Prelude.{List, ◌∷◌}
use Rattle.fn_tree.specs.Grammar.{Prod, Parse, Takes, Reads}
use Rattle.fn_tree.specs.Rules.{Rule}
use Rattle.fn_tree.specs.declared.lexeme.Lexeme.{Lexeme}

-- the first list is an end of the second
pub data Ends : List Lexeme → List Lexeme → Type 0 where
  same : {ts : List Lexeme} → Ends ts ts
  before : {c : Lexeme} {m ts : List Lexeme} → Ends m ts → Ends m (c ∷ ts)

-- the tokens up to the rest are a text, and no front goes further
pub record Finds (g : Rule → Prod) (p : Prod) (a : Parse) (ts rest : List Lexeme) : Type 0 where
  pub takes : Takes g p a ts rest
  pub last : (l : List Lexeme) → Reads g p ts l → Ends rest l

-- the tokens up to the rest are a front but no text, and no front goes further
pub record Fails (g : Rule → Prod) (p : Prod) (ts rest : List Lexeme) : Type 0 where
  pub reads : Reads g p ts rest
  pub last : (l : List Lexeme) → Reads g p ts l → Ends rest l
  pub none : (a : Parse) → Takes g p a ts rest → ⊥

-- no token that goes on a text of the first part begins the second
pub record NoClash (g : Rule → Prod) (p q : Prod) : Type 0 where
  pub apart : (a : Parse) (ts : List Lexeme) (c : Lexeme) (l : List Lexeme) → Takes g p a ts (c ∷ l) → Reads g p ts l → Reads g q (c ∷ l) l → ⊥
