-- What the command `check` answers and writes.
use Rattle.std.specs.Prelude.{◌≡◌, ◌<◌, ◌≤◌, ℕ, List, [], Option, Some, None, length}
use Rattle.std.specs.Io.KnownBytes.{Appends}
use Rattle.cv_outside.specs.Causes.{AppendsPart}
use Rattle.cv_outside.specs.declared.whole.TheConstants.{INPUT_LIMIT}
use Rattle.fn_check.specs.Functions.{first_fault}
use Rattle.fn_load.specs.Loading.{IsUnmet}
use Rattle.fn_tree.specs.Canonical.{canonical_text}
use Rattle.fn_tree.specs.ModuleTexts.{IsModuleText, IsFaultOf}
use Rattle.fn_tree.specs.SyntaxTree.{ModuleTree}
use Rattle.convexd.specs.declared.exit.Exit.{Exit}
use Rattle.convexd.specs.declared.exit.Exit.TheVariants.{Done, Usage, Module, Script, Read, Write, Memory, TooLarge}
use Rattle.convexd.specs.declared.exit.ModuleFault.{ModuleFault}
use Rattle.convexd.specs.declared.exit.ModuleFault.TheVariants.{Syntax, Check}

-- the input is the text of a module that meets every check, and this is its canonical text
pub record IsCanonical (input text : List ℕ) : Type 0 where
  pub tree : ModuleTree
  pub reads : IsModuleText input tree
  pub meets : first_fault tree ≡ None
  pub same : text ≡ canonical_text tree

-- why no module is accepted
abbrev pub IsRefused : List ℕ → ModuleFault → Type 0
IsRefused input (Syntax fault) = IsFaultOf input fault
IsRefused input (Check fault) = IsUnmet input fault

-- what an answer says of an input, and of what the sink held and holds
abbrev pub Checks : List ℕ → Option (List ℕ) → Option (List ℕ) → Exit → Type 0
Checks input old new Done = (text : List ℕ) × IsCanonical input text × Appends old new text
Checks input old new (Module fault) = IsRefused input fault × (length input ≤ INPUT_LIMIT) × Appends old new []
Checks input old new Write = (text : List ℕ) × IsCanonical input text × AppendsPart old new text
Checks input old new TooLarge = (INPUT_LIMIT < length input) × Appends old new []
Checks input old new (Script line) = ⊥
Checks input old new Usage = ⊥
Checks input old new Read = Appends old new []
Checks input old new Memory = Appends old new []
