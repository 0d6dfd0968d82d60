-- What the command `replay` answers and writes, for each module that meets every check.
use Rattle.std.specs.Prelude.{◌≡◌, ◌⊎◌, ◌<◌, ◌≤◌, ◌+◌, ℕ, List, [], Option, Some, None, length}
use Rattle.std.specs.Io.KnownBytes.{Appends}
use Rattle.cv_outside.specs.Causes.{AppendsPart}
use Rattle.cv_outside.specs.declared.whole.TheConstants.{INPUT_LIMIT}
use Rattle.fn_check.specs.Functions.{first_fault}
use Rattle.fn_load.specs.declared.fault.LoadFault.{LoadFault}
use Rattle.fn_load.specs.declared.fault.LoadFault.TheVariants as load
use Rattle.fn_tree.specs.ModuleTexts.{IsModuleText}
use Rattle.fn_tree.specs.SyntaxTree.{ModuleTree}
use Rattle.convexd.specs.Check.{IsRefused}
use Rattle.cv_stand.specs.Events.{script_of}
use Rattle.cv_stand.specs.Lines.{lines_of}
use Rattle.convexd.specs.Lines.{halves, concat}
use Rattle.cv_stand.specs.Plays.{IsOneLog}
use Rattle.cv_stand.specs.Texts.{script_text}
use Rattle.convexd.specs.declared.exit.Exit.{Exit}
use Rattle.convexd.specs.declared.exit.Exit.TheVariants.{Done, Usage, Module, Script as BadLine, Read, Write, Memory, TooLarge}
use Rattle.convexd.specs.declared.exit.ModuleFault.{ModuleFault}
use Rattle.convexd.specs.declared.exit.ModuleFault.TheVariants.{Syntax, Check}

-- the input is the text of a module that meets every check, the line `%%` and a script, which stops at this bad line or at none and writes this text
pub record IsPlay (input : List ℕ) (stop : Option ℕ) (text : List ℕ) : Type 0 where
  pub front : List (List ℕ)
  pub lines : List (List ℕ)
  pub tree : ModuleTree
  pub parts : halves (lines_of input) ≡ Some (front, lines)
  pub reads : IsModuleText (concat front) tree
  pub meets : first_fault tree ≡ None
  pub stops : stop ≡ (script_of (length front + 2) lines).bad
  pub writes : text ≡ script_text tree (script_of (length front + 2) lines)
  pub log : IsOneLog tree (script_of (length front + 2) lines).events
  pub limit : length input ≤ INPUT_LIMIT

-- the input has a line `%%`, and the text before it is refused for this fault
pub record IsRefusedBefore (input : List ℕ) (fault : ModuleFault) : Type 0 where
  pub front : List (List ℕ)
  pub lines : List (List ℕ)
  pub parts : halves (lines_of input) ≡ Some (front, lines)
  pub cause : IsRefused (concat front) fault

-- the input has no line `%%`, and this is the number of the line behind its last
abbrev pub HasNoMark : List ℕ → ℕ → Type 0
HasNoMark input line = (halves (lines_of input) ≡ None) × (line ≡ length (lines_of input) + 1)

-- what an answer says of an input, and of what the sink held and holds
abbrev pub Answers : List ℕ → Option (List ℕ) → Option (List ℕ) → Exit → Type 0
Answers input old new Done = (text : List ℕ) × IsPlay input None text × Appends old new text
Answers input old new (BadLine line) =
    (HasNoMark input line × Appends old new [] × (length input ≤ INPUT_LIMIT))
    ⊎ ((text : List ℕ) × IsPlay input (Some line) text × Appends old new text)
Answers input old new (Module fault) = IsRefusedBefore input fault × Appends old new [] × (length input ≤ INPUT_LIMIT)
Answers input old new Write = (stop : Option ℕ) × (text : List ℕ) × IsPlay input stop text × AppendsPart old new text
Answers input old new Memory = Appends old new [] ⊎ ((stop : Option ℕ) × (text : List ℕ) × IsPlay input stop text × AppendsPart old new text)
Answers input old new TooLarge = (INPUT_LIMIT < length input) × Appends old new []
Answers input old new Usage = ⊥
Answers input old new Read = Appends old new []

-- the answer to a module that isn't loaded for this fault
abbrev pub refusal_of : LoadFault → Exit
refusal_of (load.Syntax fault) = Module (Syntax fault)
refusal_of (load.Check fault) = Module (Check fault)
refusal_of load.Memory = Memory

-- an input within the limit, of the text of a module that meets every check, the line `%%` and a script without a bad line
pub record IsGoodInput (input : List ℕ) : Type 0 where
  pub front : List (List ℕ)
  pub lines : List (List ℕ)
  pub tree : ModuleTree
  pub parts : halves (lines_of input) ≡ Some (front, lines)
  pub reads : IsModuleText (concat front) tree
  pub meets : first_fault tree ≡ None
  pub good : (script_of (length front + 2) lines).bad ≡ None
  pub limit : length input ≤ INPUT_LIMIT
