-- What the functions of declarations make of a parse, and what one over all tokens answers.
use Rattle.std.specs.Prelude.{◌≡◌, ℕ, List, [], ◌∷◌, Result, Ok, Err}
use Rattle.fn_tree.specs.Fronts.{Finds, Fails}
use Rattle.fn_tree.specs.Grammar.{Prod, token, seq, turns, rule, endless, Parse}
use Rattle.fn_tree.specs.Language.{grammar, word, mark, name}
use Rattle.fn_tree.specs.ParseTrees as tree
use Rattle.fn_tree.specs.Rules as rules
use Rattle.fn_tree.specs.Terminals.{is_part, is_entry}
use Rattle.fn_tree.specs.declared.lexeme.Lexeme.{Lexeme}
use Rattle.fn_tree.specs.declared.lexeme.Mark.TheVariants.{Slash}
use Rattle.fn_tree.specs.declared.lexeme.Word.TheVariants.{Helper}
use Rattle.fn_syntax.specs.Descents.{Found}
use Rattle.fn_syntax.specs.declared.parser.cursor.Stop.{Stop}
use Rattle.fn_syntax.specs.declared.parser.cursor.Stop.TheVariants.{Memory, Wrong}
use Rattle.fn_syntax.specs.declared.parser.declaration.FunctionPath.{FunctionPath}

-- a query or a mutation
abbrev pub entry : Prod
entry = seq (token is_entry) (seq (rule rules.path) (seq (rule rules.parameters) (rule rules.block)))

-- a helper
abbrev pub helper : Prod
helper = seq (word Helper) (seq name (seq (rule rules.parameters) (rule rules.block)))

-- the further parts of a path
abbrev pub parts : Prod
parts = turns endless (seq (mark Slash) (token is_part))

-- the text of a path and its place
abbrev pub IsPath : List ℕ → FunctionPath → Parse → Type 0
IsPath s p a = (p.text ≡ tree.path_of s a) × (p.at ≡ tree.path_at a)

-- not all tokens are a text of the production: it fails, or is found where tokens are left
pub data StopsIn (p : Prod) (ts rest : List Lexeme) : Type 0 where
  fails : Fails grammar p ts rest → StopsIn p ts rest
  ends : {a : Parse} {c : Lexeme} {l : List Lexeme} → rest ≡ c ∷ l → Finds grammar p a ts rest → StopsIn p ts rest

-- it stops there, and memory may be wanted at any time
abbrev pub WholeStops : Prod → List Lexeme → Stop → Type 0
WholeStops p ts Memory = Unit {0}
WholeStops p ts (Wrong rest) = StopsIn p ts rest.now

-- all tokens are a text of the production, with a parse of this meaning, or where they stop being one
abbrev pub IsWhole : {A : Type 0} → Prod → (A → Parse → Type 0) → List Lexeme → Result A Stop → Type 0
IsWhole p means ts (Ok x) = Found p (means x) ts []
IsWhole p means ts (Err why) = WholeStops p ts why
