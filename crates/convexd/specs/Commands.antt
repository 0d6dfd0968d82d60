-- The commands by their words, and how each ends.
use Rattle.std.specs.Prelude.{◌≡◌, ◌≢◌, ◌⊎◌, ℕ, List, [], ◌∷◌, Option, IfSome, codes}
use Rattle.std.specs.Io.KnownBytes.{Appends, IsAtEnd}
use Rattle.cv_outside.specs.Causes.{Rose}
use Rattle.convexd.specs.Answering.{Answers, IsGoodInput}
use Rattle.convexd.specs.Check.{Checks, IsCanonical}
use Rattle.convexd.specs.Exits.{IsDoneOrMemory}
use Rattle.convexd.specs.declared.command.Command.{Command}
use Rattle.convexd.specs.declared.command.Command.TheVariants.{Check, Replay}
use Rattle.convexd.specs.declared.exit.Exit.{Exit}
use Rattle.convexd.specs.declared.exit.Exit.TheVariants.{Done, Usage, Read, Write, TooLarge}

abbrev pub name_of : Command → List ℕ
name_of Check = codes "check"
name_of Replay = codes "replay"

-- the words that ask for a command: its name alone
abbrev pub words_of : Command → List (List ℕ)
words_of command = name_of command ∷ []

-- what an answer says of a command's input, and of what the sink held and holds
abbrev pub Says : Command → List ℕ → Option (List ℕ) → Option (List ℕ) → Exit → Type 0
Says Check = Checks
Says Replay = Answers

-- an input that a command takes: the text of a module that meets every check, and for `replay` a script without a bad line behind it
abbrev pub IsGood : Command → List ℕ → Type 0
IsGood Check input = (text : List ℕ) × IsCanonical input text
IsGood Replay input = IsGoodInput input

-- an answer to a whole input is Write only where the sink's count of faults rose, and else the count stays
pub record HasWriteCause (before after : ℕ) (exit : Exit) : Type 0 where
  pub words : exit ≢ Usage
  pub read : exit ≢ Read
  pub write : exit ≡ Write → Rose before after
  pub kept : exit ≢ Write → after ≡ before

-- how a command ends over a source and a sink: what the answer says, that a good input without a fault of either has no other
-- answer than Done and Memory, and that each fault has its cause and none is hidden
pub record Ends {I O : Type 0} (command : Command) (left : I → Option (List ℕ)) (reads : I → ℕ) (held : O → Option (List ℕ)) (writes : O → ℕ) (source source' : I) (sink sink' : O) (exit : Exit) : Type 0 where
  pub answer : IfSome (left source) (λ input. Says command input (held sink) (held sink') exit)
  pub completes : IfSome (left source) (λ input. IsGood command input → (Rose (reads source) (reads source') → ⊥) → (Rose (writes sink) (writes sink') → ⊥) → IsDoneOrMemory exit)
  pub words : exit ≢ Usage
  pub end : exit ≡ Done → IsAtEnd (left source')
  pub read : exit ≡ Read → Rose (reads source) (reads source')
  pub write : exit ≡ Write → Rose (writes sink) (writes sink')
  pub read_kept : exit ≢ Read → reads source' ≡ reads source
  pub write_kept : exit ≢ Write → writes sink' ≡ writes sink
  pub nothing : (exit ≡ Read) ⊎ (exit ≡ TooLarge) → Appends (held sink) (held sink') []
