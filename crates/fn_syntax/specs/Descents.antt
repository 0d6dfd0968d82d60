-- What a descent function answers.
use Rattle.std.specs.Prelude.{◌≡◌, ℕ, Bool, List, ◌∷◌, Option, Some, None, Result, Ok, Err}
use Rattle.std.specs.Borrow.{Bor}
use Rattle.fn_tree.specs.Fronts.{Ends, Finds, Fails}
use Rattle.fn_tree.specs.Grammar.{Prod, token, Parse, leaf}
use Rattle.fn_tree.specs.Language.{grammar}
use Rattle.fn_tree.specs.ModuleTexts.{IsFront, IsParse}
use Rattle.fn_tree.specs.ParseTrees.{module_of}
use Rattle.fn_tree.specs.SyntaxViews.{module_view}
use Rattle.fn_tree.specs.declared.lexeme.Lexeme.{Lexeme}
use Rattle.fn_tree.specs.declared.lexeme.Terminal.{Terminal}
use Rattle.fn_tree.specs.declared.syntax.Module.{Module}
use Rattle.fn_syntax.specs.declared.parser.cursor.Stop.{Stop}
use Rattle.fn_syntax.specs.declared.parser.cursor.Stop.TheVariants.{Memory, Wrong}

-- the production is found up to the rest, with a parse of this meaning
pub record Found (p : Prod) (means : Parse → Type 0) (ts rest : List Lexeme) : Type 0 where
  pub parse : Parse
  pub finds : Finds grammar p parse ts rest
  pub says : means parse

-- it fails where the tokens are wrong from the rest on, and memory may be wanted at any time
abbrev pub Stops : Prod → List Lexeme → Stop → Type 0
Stops p ts Memory = Unit {0}
Stops p ts (Wrong rest) = Fails grammar p ts rest.now

-- it finds the production, or stops
abbrev pub IsDescent : {A : Type 0} → Prod → (A → Parse → Type 0) → List Lexeme → Result (A × Bor (List Lexeme)) Stop → Type 0
IsDescent p means ts (Ok x) = Found p (means x.0) ts x.1.now
IsDescent p means ts (Err why) = Stops p ts why

-- a token of the class is next, or none
abbrev pub Accepts : (Terminal → Bool) → List Lexeme → Option (Lexeme × Bor (List Lexeme)) → Type 0
Accepts f ts (Some x) = Finds grammar (token f) (leaf x.0) ts x.1.now
Accepts f ts None = Fails grammar (token f) ts ts

-- The tokens before the rest are a front of a module, those with the next one are none, and all are no module.
pub record StopsAt (ts rest : List Lexeme) : Type 0 where
  pub within : Ends rest ts
  pub front : IsFront ts rest
  pub wrong : (c : Lexeme) (l : List Lexeme) → rest ≡ c ∷ l → IsFront ts l → ⊥
  pub none : (a : Parse) → IsParse ts a → ⊥

-- all tokens are a text of a module, or where they stop being one
abbrev pub IsModule : List ℕ → List Lexeme → Result Module Stop → Type 0
IsModule s ts (Ok m) = (a : Parse) × IsParse ts a × (module_of s a ≡ module_view m)
IsModule s ts (Err Memory) = Unit {0}
IsModule s ts (Err (Wrong rest)) = StopsAt ts rest.now
