-- Which bytes are the text of a module, and the first fault of those that are none.
use Rattle.std.specs.Prelude.{◌≡◌, ℕ, ◌<◌, ◌≤◌, ◌⊎◌, List, [], ◌∷◌, length, drop, Some, None}
use Rattle.std.specs.Str.Lossy.{utf8_valid_len}
use Rattle.fn_tree.specs.Fronts.{Ends}
use Rattle.fn_tree.specs.Grammar.{Parse, Takes, Reads, rule}
use Rattle.fn_tree.specs.Language.{grammar}
use Rattle.fn_tree.specs.Lexemes.{lexemes_of}
use Rattle.fn_tree.specs.Nesting.{first_too_deep}
use Rattle.fn_tree.specs.ParseTrees.{module_of}
use Rattle.fn_tree.specs.Rules.{whole_module}
use Rattle.fn_tree.specs.SyntaxTree.{ModuleTree}
use Rattle.fn_tree.specs.declared.fault.SyntaxFault.{SyntaxFault}
use Rattle.fn_tree.specs.declared.fault.Why.{Why}
use Rattle.fn_tree.specs.declared.fault.Why.TheVariants.{TooLong, NotUtf8, BadToken, TooDeep, WrongToken, EarlyEnd}
use Rattle.fn_tree.specs.declared.lexeme.Lexeme.{Lexeme}

-- the most bytes of a text
abbrev pub longest : ℕ
longest = 1048576

-- the tokens are a module, read so
abbrev pub IsParse : List Lexeme → Parse → Type 0
IsParse ts a = Takes grammar (rule whole_module) a ts []

-- the tokens before the rest are a front of a module
abbrev pub IsFront : List Lexeme → List Lexeme → Type 0
IsFront ts rest = Reads grammar (rule whole_module) ts rest

-- the bytes are not too long, UTF-8, of tokens that can be read and nest no deeper than they may, and
-- these are a text of the grammar that says the module
pub record IsModuleText (text : List ℕ) (m : ModuleTree) : Type 0 where
  pub short : length text ≤ longest
  pub utf8 : utf8_valid_len text ≡ length text
  pub readable : (lexemes_of text).bad ≡ None
  pub shallow : first_too_deep (lexemes_of text).lexemes ≡ None
  pub parse : Parse
  pub parses : IsParse (lexemes_of text).lexemes parse
  pub tree : module_of text parse ≡ m

-- the text ends at a token that is too deep
pub record DeepAt (text : List ℕ) (at : ℕ) : Type 0 where
  pub before : ℕ
  pub first : first_too_deep (lexemes_of text).lexemes ≡ Some before
  pub token : Lexeme
  pub rest : List Lexeme
  pub here : drop before (lexemes_of text).lexemes ≡ token ∷ rest
  pub place : token.at ≡ at

-- the tokens before this one are a front of a module, and with it they are none
pub record WrongAt (text : List ℕ) (at : ℕ) : Type 0 where
  pub token : Lexeme
  pub rest : List Lexeme
  pub within : Ends (token ∷ rest) (lexemes_of text).lexemes
  pub front : IsFront (lexemes_of text).lexemes (token ∷ rest)
  pub wrong : IsFront (lexemes_of text).lexemes rest → ⊥
  pub place : token.at ≡ at

-- all tokens are a front of a module, and no module
pub record EndsEarly (text : List ℕ) (at : ℕ) : Type 0 where
  pub readable : (lexemes_of text).bad ≡ None
  pub front : IsFront (lexemes_of text).lexemes []
  pub none : (a : Parse) → IsParse (lexemes_of text).lexemes a → ⊥
  pub place : length text ≡ at

-- the faults of the tokens of a UTF-8 text, each at its place
abbrev pub HasFault : List ℕ → Why → ℕ → Type 0
HasFault text TooLong at = ⊥
HasFault text NotUtf8 at = ⊥
HasFault text BadToken at = (lexemes_of text).bad ≡ Some at
HasFault text TooDeep at = DeepAt text at
HasFault text WrongToken at = WrongAt text at
HasFault text EarlyEnd at = EndsEarly text at

-- which of two faults at one place is told
abbrev pub rank : Why → ℕ
rank TooLong = 0
rank NotUtf8 = 1
rank BadToken = 2
rank TooDeep = 3
rank WrongToken = 4
rank EarlyEnd = 5

-- a fault with the least place, the first of those at one place
pub record IsFirstFault (text : List ℕ) (why : Why) (at : ℕ) : Type 0 where
  pub fault : HasFault text why at
  pub first : (other : Why) (there : ℕ) → HasFault text other there → (at < there) ⊎ ((at ≡ there) × (rank why ≤ rank other))

-- the fault of some bytes: too long, else no UTF-8, else the first fault of the tokens
abbrev pub IsFaultOf : List ℕ → SyntaxFault → Type 0
IsFaultOf text f =
    ((longest < length text) × (f.why ≡ TooLong) × (f.at ≡ longest))
    ⊎ ((length text ≤ longest) × (utf8_valid_len text < length text) × (f.why ≡ NotUtf8) × (f.at ≡ utf8_valid_len text))
    ⊎ ((length text ≤ longest) × (utf8_valid_len text ≡ length text) × IsFirstFault text f.why f.at)
