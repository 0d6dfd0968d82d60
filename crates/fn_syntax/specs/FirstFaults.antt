-- Which fault is told, from what is known of the tokens.
use Rattle.std.specs.Prelude.{◌≡◌, ℕ, List, [], ◌∷◌, ◌++◌, length, Option, Some, None}
use Rattle.fn_tree.specs.Nesting.{first_too_deep}
use Rattle.fn_tree.specs.declared.fault.SyntaxFault.{SyntaxFault}
use Rattle.fn_tree.specs.declared.fault.Why.TheVariants.{BadToken, TooDeep, WrongToken, EarlyEnd}
use Rattle.fn_tree.specs.declared.lexeme.Lexeme.{Lexeme}

-- these are the tokens before the first one that is too deep, which is this one, or all where none is
abbrev pub IsCut : List Lexeme → List Lexeme → Option Lexeme → Type 0
IsCut tokens front (Some deep) = (rest : List Lexeme) × (tokens ≡ front ++ deep ∷ rest) × (first_too_deep tokens ≡ Some (length front))
IsCut tokens front None = (tokens ≡ front) × (first_too_deep tokens ≡ None)

-- the fault after tokens that begin a module: the one too deep, else the place where no token begins
abbrev pub fault_after : Option Lexeme → Option ℕ → Option SyntaxFault
fault_after (Some deep) bad = Some (record { at = deep.at; why = TooDeep })
fault_after None (Some at) = Some (record { at = at; why = BadToken })
fault_after None None = None

-- the fault of tokens that stop being a module before the rest, where this one comes after them
abbrev pub fault_at : List ℕ → List Lexeme → Option SyntaxFault → SyntaxFault
fault_at text (wrong ∷ rest) after = record { at = wrong.at; why = WrongToken }
fault_at text [] (Some fault) = fault
fault_at text [] None = record { at = length text; why = EarlyEnd }
